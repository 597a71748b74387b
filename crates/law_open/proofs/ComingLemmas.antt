-- A run with more answers comes by where it waited with fewer, and hears the first of the others there.
use Rattle.std.proofs.Common.{◌≡◌, ◌⊎◌, List, [], ◌∷◌, ◌++◌, length, Option, Some, None, refl, sym, ap, ◌∙◌, subst, inl, inr, append_assoc, suc-ne-zero}
use Rattle.std.proofs.lemmas.List.{append-nil, append_cancel_left, map-append}
use Rattle.std.proofs.lemmas.Option.{same_Some}
use Rattle.spec_execution.specs.Askings.{Question, Answer, Asking, answers_in}
use Rattle.spec_execution.specs.Bodies.{exec}
use Rattle.spec_execution.specs.Commands.{Finish, Replied, Early, command}
use Rattle.spec_execution.specs.Entering.{entry}
use Rattle.spec_execution.specs.Instantiation.{instantiate}
use Rattle.spec_execution.specs.Outcomes.{World, Outcome, Values, Branch, Return, Over, End, Waiting}
use Rattle.spec_execution.proofs.LaterWorldLemmas.{Later, world_of, end_of, entry_later, instantiate_later, command_later}
use Rattle.law_answers.specs.Fronts.{world_with, outcome_with, finish_with, outcome_heard, finish_heard, WaitsAt, HeardAt, AsksAt, ComeToTheSame, AskTheSame, GoTogether}
use Rattle.law_answers.proofs.FrontLemmas.{law_of_fronts}
use Rattle.law_open.specs.Comings.{WaitsThere, HearsThere, ComesBy, MoreAnswersComeBy}

-- what was heard behind some of it has the answers of both
answers_at : (before : List Asking) (q : Question) (a : Answer) (more : List Asking)
    → answers_in (before ++ (q, a) ∷ more) ≡ answers_in before ++ a ∷ answers_in more
answers_at before q a more = map-append (λ (asking : Asking). asking.1) before ((q, a) ∷ more)

-- nothing is behind all of a list
none_behind : (xs : List Answer) (a : Answer) (more : List Answer) → xs ≡ xs ++ a ∷ more → ⊥
none_behind xs a more e =
    suc-ne-zero (length more)
    (sym (ap (λ (ys : List Answer). length ys) (append_cancel_left xs [] (a ∷ more) (append-nil xs ∙ e))))

module _ {O : Type 0} (early : End → World → O) (with_left : List Answer → O → O) (heard_by : O → List Asking)
    (left_of : O → World) (asked_by : O → Option (Question × World))
    (twice : (l l' : List Answer) (o : O) → with_left l (with_left l' o) ≡ with_left l o)
    (left_early : (l : List Answer) (e : End) (v : World) → with_left l (early e v) ≡ early e (world_with l v))
    (heard_is : (o : O) → heard_by o ≡ (left_of o).heard) (early_is : (e : End) (v : World) → left_of (early e v) ≡ v)
    (asks : (q : Question) (v : World) → asked_by (early (Waiting q) v) ≡ Some (q, v))
    (run : World → O) (w : World) (together : GoTogether early with_left heard_by run w)
    (later : (answers : List Answer) → Later (world_with answers w) (left_of (run (world_with answers w)))) where
  abbrev There : List Asking → Question → List Answer → O → Type 0
  There heard q rest o = WaitsThere early heard_by heard q o ⊎ HearsThere early heard_by heard q rest o

  -- what was heard of a run that asked this question behind so much, whose answers are all of these
  module _ (answers rest : List Answer) (more : List Asking) (taken : answers_in more ≡ answers) where
    -- it heard an answer there: the first of the rest
    hears : (q : Question) → HeardAt early with_left heard_by (w.heard ++ more) q (run (world_with (answers ++ rest) w))
        → HearsThere early heard_by (w.heard ++ more) q rest (run (world_with (answers ++ rest) w))
    hears q k =
        let o : O = run (world_with (answers ++ rest) w) in
        let l : Later (world_with (answers ++ rest) w) (left_of o) = later (answers ++ rest) in
        let same : w.heard ++ l.course.0 ≡ w.heard ++ (more ++ (q, k.answer) ∷ k.more) =
        sym l.course.1 ∙ sym (heard_is o) ∙ k.course ∙ append_assoc w.heard more ((q, k.answer) ∷ k.more) in
        let course : l.course.0 ≡ more ++ (q, k.answer) ∷ k.more =
        append_cancel_left w.heard l.course.0 (more ++ (q, k.answer) ∷ k.more) same in
        let others : List Answer = answers_in k.more ++ (left_of o).answers in
        let all : answers ++ rest ≡ answers ++ (k.answer ∷ others) =
        l.course.2 ∙ ap (λ (h : List Asking). answers_in h ++ (left_of o).answers) course
        ∙ ap (λ (xs : List Answer). xs ++ (left_of o).answers) (answers_at more q k.answer k.more)
        ∙ append_assoc (answers_in more) (k.answer ∷ answers_in k.more) (left_of o).answers
        ∙ ap (λ (xs : List Answer). xs ++ (k.answer ∷ others)) taken in
        record {
          answer = k.answer;
          others = others;
          more = k.more;
          first = append_cancel_left answers rest (k.answer ∷ others) all;
          course = k.course;
        }

  module _ (answers rest : List Answer) (q : Question) (v : World)
      (waits : run (world_with (answers ++ []) w) ≡ early (Waiting q) v) (none : v.answers ≡ []) where
    abbrev o : O
    o = run (world_with (answers ++ []) w)

    abbrev o' : O
    o' = run (world_with (answers ++ rest) w)

    abbrev Here : Type 0
    Here = There v.heard q rest o'

    -- both come to the same: with the others, too, it waits there
    at_one : ComeToTheSame early with_left heard_by [] rest o o' → Here
    at_one j =
        inl (record {
          world = world_with (j.left ++ rest) v;
          waits =
              j.second ∙ sym (twice (j.left ++ rest) (j.left ++ []) j.end)
              ∙ ap (with_left (j.left ++ rest)) (sym j.first ∙ waits) ∙ left_early (j.left ++ rest) (Waiting q) v;
          place = refl;
        })

    -- the first asks in no other place, and no other question
    at_place : (heard : List Asking) (r : Question) → WaitsAt early with_left heard_by heard r o
        → (heard ≡ v.heard) × (r ≡ q)
    at_place heard r k =
        let e : Some (q, v) ≡ Some (r, k.world) =
        sym (asks q v) ∙ ap asked_by (sym waits ∙ k.waits) ∙ asks r k.world in
        let same : (q, v) ≡ (r, k.world) = same_Some (q, v) (r, k.world) e in (
          sym k.place ∙ ap (λ (u : World). u.heard) (sym (ap (λ (p : Question × World). p.1) same)),
          sym (ap (λ (p : Question × World). p.0) same),
        )

    -- nor did it hear an answer there: all were heard before
    not_heard : (more : List Asking) (r : Question) → answers_in more ≡ answers
        → HeardAt early with_left heard_by (w.heard ++ more) r o → ⊥
    not_heard more r taken k =
        let h = hears answers [] more taken r k in
        suc-ne-zero (length h.others) (sym (ap (λ (xs : List Answer). length xs) h.first))

    asks_there : (heard : List Asking) (r : Question) (more : List Asking) → heard ≡ w.heard ++ more
        → answers_in more ≡ answers → (heard ≡ v.heard) × (r ≡ q) → AsksAt early with_left heard_by heard r o' → Here
    asks_there heard r more place taken same (inl k) =
        inl (record {
          world = k.world;
          waits = subst (λ (r : Question). o' ≡ early (Waiting r) k.world) same.1 k.waits;
          place = k.place ∙ same.0;
        })
    asks_there heard r more place taken same (inr k) =
        inr (subst (λ (h : List Asking). HearsThere early heard_by h q rest o') (sym place ∙ same.0)
        (subst (λ (r : Question). HearsThere early heard_by (w.heard ++ more) r rest o') same.1
        (hears answers rest more taken r (subst (λ (h : List Asking). HeardAt early with_left heard_by h r o') place k))))

    at_two : AskTheSame early with_left heard_by w.heard answers o o' → Here
    at_two j = by j.first
      where
        by : AsksAt early with_left heard_by (w.heard ++ j.more) j.question o → Here
        by (inl k) =
            asks_there (w.heard ++ j.more) j.question j.more refl j.taken (at_place (w.heard ++ j.more) j.question k) j.second
        by (inr k) = absurd (not_heard j.more j.question j.taken k)

    either : ComeToTheSame early with_left heard_by [] rest o o' ⊎ AskTheSame early with_left heard_by w.heard answers o o'
        → Here
    either (inl j) = at_one j
    either (inr j) = at_two j

  comes_by : ComesBy early heard_by run w
  comes_by answers rest q v waits none =
      either answers rest q v (ap (λ (l : List Answer). run (world_with l w)) (append-nil answers) ∙ waits) none
      (together answers [] rest)

-- ---- of calls, instantiations and commands

outcome_twice : (l l' : List Answer) (o : Outcome) → outcome_with l (outcome_with l' o) ≡ outcome_with l o
outcome_twice l l' (Values s) = refl
outcome_twice l l' (Branch k s) = refl
outcome_twice l l' (Return s) = refl
outcome_twice l l' (Over e w) = refl

outcome_heard_is : (o : Outcome) → outcome_heard o ≡ (world_of o).heard
outcome_heard_is (Values s) = refl
outcome_heard_is (Branch k s) = refl
outcome_heard_is (Return s) = refl
outcome_heard_is (Over e w) = refl

asked_outcome : Outcome → Option (Question × World)
asked_outcome (Over (Waiting q) w) = Some (q, w)
asked_outcome o = None

code_comes_by :
    (run : World → Outcome) (w : World) → GoTogether Over outcome_with outcome_heard run w
    → ((answers : List Answer) → Later (world_with answers w) (world_of (run (world_with answers w))))
    → ComesBy Over outcome_heard run w
unfolding asked_outcome
code_comes_by run w together later =
    comes_by Over outcome_with outcome_heard world_of asked_outcome outcome_twice (λ l e v. refl) outcome_heard_is
    (λ e v. refl) (λ q v. refl) run w together later

finish_twice : (l l' : List Answer) (o : Finish) → finish_with l (finish_with l' o) ≡ finish_with l o
finish_twice l l' (Replied reply w) = refl
finish_twice l l' (Early e w) = refl

finish_heard_is : (o : Finish) → finish_heard o ≡ (end_of o).heard
finish_heard_is (Replied reply w) = refl
finish_heard_is (Early e w) = refl

asked_finish : Finish → Option (Question × World)
asked_finish (Early (Waiting q) w) = Some (q, w)
asked_finish o = None

command_comes_by :
    (run : World → Finish) (w : World) → GoTogether Early finish_with finish_heard run w
    → ((answers : List Answer) → Later (world_with answers w) (end_of (run (world_with answers w))))
    → ComesBy Early finish_heard run w
unfolding asked_finish
command_comes_by run w together later =
    comes_by Early finish_with finish_heard end_of asked_finish finish_twice (λ l e v. refl) finish_heard_is
    (λ e v. refl) (λ q v. refl) run w together later

pub more_answers_come_by : MoreAnswersComeBy
more_answers_come_by = record {
  calls = λ depth n args caller w.
      code_comes_by (entry exec depth n args caller) w (law_of_fronts.calls depth n args caller w)
      (λ answers. entry_later depth n args caller (world_with answers w));
  instantiations = λ depth w d imports.
      code_comes_by (λ v. instantiate exec depth v d imports) w (law_of_fronts.instantiations depth w d imports)
      (λ answers. instantiate_later depth (world_with answers w) d imports);
  commands = λ modules s c w.
      command_comes_by (command exec modules s c) w (law_of_fronts.commands modules s c w)
      (λ answers. command_later modules s c (world_with answers w));
}
