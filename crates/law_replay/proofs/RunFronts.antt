-- How two runs of commands go whose answers begin alike: the law on fronts, of each command, over a list of commands.
use Rattle.std.proofs.Common.{◌≡◌, ◌⊎◌, ℕ, List, [], ◌∷◌, ◌++◌, Option, Some, None, refl, sym, ap, ◌∙◌, subst, inl, inr}
use Rattle.std.specs.Prelude.{option_and_then, option_map}
use Rattle.std.proofs.lemmas.List.{append_assoc, append-nil, map-append, append_cancel_right}
use Rattle.std.proofs.lemmas.Option.{none-some, same_Some}
use Rattle.wasm_syntax.specs.declared.declarations.ModuleDecl.{ModuleDecl}
use Rattle.wasm_values.specs.declared.refusals.Refusal.TheVariants.{TurnLimit}
use Rattle.spec_machine.specs.Names.{outermost}
use Rattle.spec_machine.specs.declared.command.Command.{Command}
use Rattle.spec_machine.specs.declared.reply.Reply.TheVariants.{Refused}
use Rattle.spec_execution.specs.Askings.{Question, Answer, Asking, answers_in}
use Rattle.spec_execution.specs.Bodies.{exec}
use Rattle.spec_execution.specs.Commands.{Finish, Replied, Early, command}
use Rattle.spec_execution.specs.Outcomes.{World, Stopped}
use Rattle.spec_execution.specs.Runs.{State, world_in, behind, turns_of, finished, finish_of, step, run}
use Rattle.spec_execution.proofs.LaterWorldLemmas.{Later, end_of, command_later}
use Rattle.law_answers.specs.Fronts.{world_with, finish_with, finish_heard, AsksAt, ComeToTheSame, AskTheSame}
use Rattle.law_answers.proofs.FrontLemmas.{law_of_fronts}

-- ---- states of a run

-- with these answers left
abbrev pub state_with : List Answer → State → State
state_with answers s = record s { answers = answers }

abbrev pub ended_with : List Answer → Option State → Option State
ended_with answers o = option_map (state_with answers) o

-- what a run heard that came to an end goes on by what was heard there
pub record HeardOn (h : List Asking) (t : State) : Type 0 where
  pub more : List Asking
  pub course : t.heard ≡ h ++ more

-- it asked this there, and heard an answer
pub record HearsAt (h : List Asking) (q : Question) (t : State) : Type 0 where
  pub answer : Answer
  pub more : List Asking
  pub course : t.heard ≡ h ++ (q, answer) ∷ more

-- where it came to an end it did
abbrev pub AsksIn : List Asking → Question → Option State → Type 0
AsksIn h q o = (t : State) → o ≡ Some t → HearsAt h q t

-- both came to the same, with the same answers left before their own rests
pub record SameRuns (rest rest' : List Answer) (o o' : Option State) : Type 0 where
  pub end : Option State
  pub left : List Answer
  pub first : o ≡ ended_with (left ++ rest) end
  pub second : o' ≡ ended_with (left ++ rest') end

-- both took all common answers, heard the same meanwhile, and asked the same question there
pub record AskRuns (before : List Asking) (common : List Answer) (o o' : Option State) : Type 0 where
  pub more : List Asking
  pub taken : answers_in more ≡ common
  pub question : Question
  pub first : AsksIn (before ++ more) question o
  pub second : AsksIn (before ++ more) question o'

-- ---- one command

finished_with :
    (turns : ℕ) (s : State) (answers : List Answer) (o : Finish)
    → finished turns s (finish_with answers o) ≡ ended_with answers (finished turns s o)
finished_with turns s answers (Replied reply w) = refl
finished_with turns s answers (Early Stopped w) = refl
finished_with turns s answers (Early e w) = refl

finished_heard : (turns : ℕ) (s t : State) (o : Finish) → finished turns s o ≡ Some t → t.heard ≡ finish_heard o
finished_heard turns s t (Replied reply w) e =
    sym (ap (λ (u : State). u.heard) (same_Some (behind turns w (s.replies ++ reply ∷ [])) t e))
finished_heard turns s t (Early Stopped w) e =
    sym (ap (λ (u : State). u.heard) (same_Some (behind turns w (s.replies ++ Refused TurnLimit ∷ [])) t e))
finished_heard turns s t (Early end w) e = absurd (none-some t e)

end_heard : (o : Finish) → (end_of o).heard ≡ finish_heard o
end_heard (Replied reply w) = refl
end_heard (Early e w) = refl

end_answers : (answers : List Answer) (o : Finish) → (end_of (finish_with answers o)).answers ≡ answers
end_answers answers (Replied reply w) = refl
end_answers answers (Early e w) = refl

with_heard : (answers : List Answer) (o : Finish) → finish_heard (finish_with answers o) ≡ finish_heard o
with_heard answers (Replied reply w) = refl
with_heard answers (Early e w) = refl

heard_on : (h : List Asking) (s t : State) → HeardOn h s → HeardOn s.heard t → HeardOn h t
heard_on h s t a b = record {
  more = a.more ++ b.more;
  course = b.course ∙ ap (λ (xs : List Asking). xs ++ b.more) a.course ∙ append_assoc h a.more b.more;
}

module _ (modules : List ModuleDecl) where
  -- what one command comes to
  abbrev does : State → Command → Finish
  does s c = finish_of modules (turns_of s.machine) s c

  abbrev goes : List Command → Option State → Option State
  goes commands o = option_and_then (λ (u : State). run modules u commands) o

  -- ---- what a run heard stays

  step_on : (s t : State) (c : Command) → step modules s c ≡ Some t → HeardOn s.heard t
  step_on s t c e =
      let w : World = world_in (turns_of s.machine) s in
      let o : Finish = does s c in
      let k : Later w (end_of o) = command_later modules (outermost s.replies) c w in
      record {
        more = k.course.0;
        course = finished_heard (turns_of s.machine) s t o e ∙ sym (end_heard o) ∙ k.course.1;
      }

  goes_on :
      (commands : List Command) (t : State)
      → ((u : State) → run modules u commands ≡ Some t → HeardOn u.heard t)
      → (h : List Asking) (o : Option State) → ((u : State) → o ≡ Some u → HeardOn h u) → goes commands o ≡ Some t
      → HeardOn h t
  goes_on commands t k h None j e = absurd (none-some t e)
  goes_on commands t k h (Some u) j e = heard_on h u t (j u refl) (k u e)

  pub run_on : (commands : List Command) (s t : State) → run modules s commands ≡ Some t → HeardOn s.heard t
  run_on [] s t e =
      record { more = []; course = sym (ap (λ (u : State). u.heard) (same_Some s t e)) ∙ sym (append-nil s.heard) }
  run_on (c ∷ commands) s t e =
      goes_on commands t (λ u f. run_on commands u t f) s.heard (step modules s c) (λ u f. step_on s u c f) e

  -- ---- where the command asks

  asks_by :
      (commands : List Command) (turns : ℕ) (s : State) (h : List Asking) (q : Question) (o : Finish)
      → AsksAt Early finish_with finish_heard h q o → AsksIn h q (goes commands (finished turns s o))
  asks_by commands turns s h q o (inl k) t e =
      absurd (none-some t
      (sym (ap (λ (x : Finish). goes commands (finished turns s x)) k.waits) ∙ e))
  asks_by commands turns s h q o (inr k) t e = behind (finished turns s o) refl e
    where
      behind : (p : Option State) → finished turns s o ≡ p → goes commands p ≡ Some t → HearsAt h q t
      behind None f g = absurd (none-some t g)
      behind (Some u) f g =
          let j : HeardOn u.heard t = run_on commands u t g in
          record {
            answer = k.answer;
            more = k.more ++ j.more;
            course =
                j.course
                ∙ ap (λ (xs : List Asking). xs ++ j.more) (finished_heard turns s u o f ∙ k.course)
                ∙ append_assoc h ((q, k.answer) ∷ k.more) j.more;
          }

  -- ---- both runs

  module _ (rest rest' : List Answer) where
    abbrev Both : List Asking → List Answer → Option State → Option State → Type 0
    Both before common o o' = SameRuns rest rest' o o' ⊎ AskRuns before common o o'

    -- what was heard before is before what was heard since
    further :
        (h more : List Asking) (common left : List Answer) (h' : List Asking) (o o' : Option State) → h' ≡ h ++ more
        → common ≡ answers_in more ++ left → Both h' left o o' → Both h common o o'
    further h more common left h' o o' e f (inl k) = inl k
    further h more common left h' o o' e f (inr k) =
        let g : h' ++ k.more ≡ h ++ (more ++ k.more) =
        ap (λ (xs : List Asking). xs ++ k.more) e ∙ append_assoc h more k.more in
        inr (record {
          more = more ++ k.more;
          taken =
              map-append (λ (asking : Asking). asking.1) more k.more
              ∙ ap (λ (xs : List Answer). answers_in more ++ xs) k.taken ∙ sym f;
          question = k.question;
          first = subst (λ (x : List Asking). AsksIn x k.question o) g k.first;
          second = subst (λ (x : List Asking). AsksIn x k.question o') g k.second;
        })

    -- behind a command that came to the same
    behind_same :
        (commands : List Command)
        → ((u : State) (common : List Answer)
        → Both u.heard common (run modules (state_with (common ++ rest) u) commands)
        (run modules (state_with (common ++ rest') u) commands))
        → (h more : List Asking) (common left : List Answer) (p : Option State)
        → ((u : State) → p ≡ Some u → u.heard ≡ h ++ more) → common ≡ answers_in more ++ left
        → Both h common (goes commands (ended_with (left ++ rest) p)) (goes commands (ended_with (left ++ rest') p))
    behind_same commands k h more common left None j e =
        inl (record { end = None; left = []; first = refl; second = refl })
    behind_same commands k h more common left (Some u) j e =
        further h more common left u.heard _ _ (j u refl) e (k u left)

    -- a command, and then those behind it
    module _ (commands : List Command)
        (k : (u : State) (common : List Answer)
        → Both u.heard common (run modules (state_with (common ++ rest) u) commands)
        (run modules (state_with (common ++ rest') u) commands))
        (s : State) (c : Command) (common : List Answer) where
      abbrev turns : ℕ
      turns = turns_of s.machine

      abbrev w : World
      w = world_in turns s

      abbrev o : Finish
      o = command exec modules (outermost s.replies) c (world_with (common ++ rest) w)

      abbrev o' : Finish
      o' = command exec modules (outermost s.replies) c (world_with (common ++ rest') w)

      abbrev BothGo : Type 0
      BothGo = Both s.heard common (goes commands (finished turns s o)) (goes commands (finished turns s o'))

      both_same : (end : Finish) (left : List Answer) → o ≡ finish_with (left ++ rest) end → o' ≡ finish_with (left ++ rest') end
          → BothGo
      both_same end left e e' =
          let l : Later (world_with (common ++ rest) w) (end_of o) =
          command_later modules (outermost s.replies) c (world_with (common ++ rest) w) in
          let heard : finish_heard end ≡ s.heard ++ l.course.0 =
          sym (with_heard (left ++ rest) end) ∙ sym (ap finish_heard e) ∙ sym (end_heard o) ∙ l.course.1 in
          let answers : common ++ rest ≡ answers_in l.course.0 ++ (left ++ rest) =
          l.course.2
          ∙ ap (λ (xs : List Answer). answers_in l.course.0 ++ xs)
          (ap (λ (x : Finish). (end_of x).answers) e ∙ end_answers (left ++ rest) end) in
          let front : common ≡ answers_in l.course.0 ++ left =
          append_cancel_right common (answers_in l.course.0 ++ left) rest
          (answers ∙ sym (append_assoc (answers_in l.course.0) left rest)) in
          let first : finished turns s o ≡ ended_with (left ++ rest) (finished turns s end) =
          ap (finished turns s) e ∙ finished_with turns s (left ++ rest) end in
          let second : finished turns s o' ≡ ended_with (left ++ rest') (finished turns s end) =
          ap (finished turns s) e' ∙ finished_with turns s (left ++ rest') end in
          subst (λ (x : Option State). Both s.heard common (goes commands x) (goes commands (finished turns s o')))
          (sym first)
          (subst (λ (x : Option State). Both s.heard common
          (goes commands (ended_with (left ++ rest) (finished turns s end))) (goes commands x)) (sym second)
          (behind_same commands k s.heard l.course.0 common left (finished turns s end)
          (λ u f. finished_heard turns s u end f ∙ heard) front))

      command_fronts :
          ComeToTheSame Early finish_with finish_heard rest rest' o o'
          ⊎ AskTheSame Early finish_with finish_heard s.heard common o o'
          → BothGo
      command_fronts (inl j) = both_same j.end j.left j.first j.second
      command_fronts (inr j) =
          inr (record {
            more = j.more;
            taken = j.taken;
            question = j.question;
            first = asks_by commands turns s (s.heard ++ j.more) j.question o j.first;
            second = asks_by commands turns s (s.heard ++ j.more) j.question o' j.second;
          })

    pub run_fronts :
        (commands : List Command) (s : State) (common : List Answer)
        → Both s.heard common (run modules (state_with (common ++ rest) s) commands)
        (run modules (state_with (common ++ rest') s) commands)
    run_fronts [] s common = inl (record { end = Some s; left = common; first = refl; second = refl })
    run_fronts (c ∷ commands) s common =
        command_fronts commands (λ u l. run_fronts commands u l) s c common
        (law_of_fronts.commands modules (outermost s.replies) c (world_in (turns_of s.machine) s) common rest rest')
