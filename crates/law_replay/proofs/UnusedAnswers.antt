-- A run that left answers is the run by the answers that it used.
use Rattle.std.proofs.Common.{◌≡◌, ◌⊎◌, List, [], ◌∷◌, ◌++◌, Option, Some, None, refl, sym, ap, ◌∙◌, inl, inr}
use Rattle.std.proofs.lemmas.List.{append_assoc, append-nil, append_cancel_left, append_cancel_right}
use Rattle.std.proofs.lemmas.Option.{none-some, same_Some}
use Rattle.wasm_syntax.specs.declared.declarations.ModuleDecl.{ModuleDecl}
use Rattle.spec_machine.specs.declared.command.Command.{Command}
use Rattle.spec_execution.specs.Askings.{Question, Answer, Asking, answers_in}
use Rattle.spec_execution.specs.Runs.{State, run}
use Rattle.law_replay.specs.Replays.{RanBy, RanWith, without_answers}
use Rattle.law_replay.proofs.Replays.{SameSplit, split_same, as_long}
use Rattle.law_replay.proofs.RunFronts.{state_with, ended_with, HearsAt, SameRuns, AskRuns, run_fronts}

module _ (modules : List ModuleDecl) (commands : List Command) (s : State) where
  -- a run with these answers
  abbrev by : List Answer → Option State
  by answers = run modules (state_with answers s) commands

  -- both came to the same: nothing but what the first run left was left of the common answers
  alone_at_end :
      (heard : List Asking) (t : State) (end : Option State) (left : List Answer)
      → by (answers_in heard ++ t.answers) ≡ Some t
      → by (answers_in heard ++ t.answers) ≡ ended_with (left ++ t.answers) end
      → by (answers_in heard ++ []) ≡ ended_with (left ++ []) end
      → by (answers_in heard ++ []) ≡ Some (without_answers t)
  alone_at_end heard t None left e f g = absurd (none-some t (sym f ∙ e))
  alone_at_end heard t (Some v) left e f g =
      let same : state_with (left ++ t.answers) v ≡ t = same_Some (state_with (left ++ t.answers) v) t (sym f ∙ e) in
      let none : left ≡ [] = append_cancel_right left [] t.answers (ap (λ (u : State). u.answers) same) in
      g ∙ ap (λ (xs : List Answer). Some (state_with (xs ++ []) v)) none ∙ ap (λ (u : State). Some (without_answers u)) same

  -- it asked nothing behind them
  asks_no_more : {P : Type 0} (heard more : List Asking) (t : State) (q : Question) → t.heard ≡ s.heard ++ heard
      → answers_in more ≡ answers_in heard → HearsAt (s.heard ++ more) q t → P
  asks_no_more heard more t q course taken j =
      let both : more ++ (q, j.answer) ∷ j.more ≡ heard ++ [] =
      append_cancel_left s.heard (more ++ (q, j.answer) ∷ j.more) heard
      (sym (append_assoc s.heard more ((q, j.answer) ∷ j.more)) ∙ sym j.course ∙ course)
      ∙ sym (append-nil heard) in
      let split : SameSplit more heard ((q, j.answer) ∷ j.more) [] =
      split_same more heard ((q, j.answer) ∷ j.more) [] (as_long more heard taken) both in
      absurd (let e : (q, j.answer) ∷ j.more ≡ [] = split.rest in cc)

  alone :
      (heard : List Asking) (t : State) → by (answers_in heard ++ t.answers) ≡ Some t → t.heard ≡ s.heard ++ heard
      → SameRuns t.answers [] (by (answers_in heard ++ t.answers)) (by (answers_in heard ++ []))
      ⊎ AskRuns s.heard (answers_in heard) (by (answers_in heard ++ t.answers)) (by (answers_in heard ++ []))
      → by (answers_in heard ++ []) ≡ Some (without_answers t)
  alone heard t e course (inl k) = alone_at_end heard t k.end k.left e k.first k.second
  alone heard t e course (inr k) = asks_no_more heard k.more t k.question course k.taken (k.first t e)

  pub used_alone :
      (answers : List Answer) (heard : List Asking) (t : State) → RanWith modules commands s answers heard t
      → RanBy modules commands s heard (without_answers t)
  used_alone answers heard t r = record {
    ran =
        ap (λ (xs : List Answer). by xs) (sym (append-nil (answers_in heard)))
        ∙ alone heard t (ap (λ (xs : List Answer). by xs) (sym r.used) ∙ r.ran) r.course
        (run_fronts modules t.answers [] commands s (answers_in heard));
    course = r.course;
    used = refl;
  }
