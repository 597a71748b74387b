-- Two runs of one dialogue whose answers begin alike.
use Rattle.std.proofs.Common.{◌≡◌, ◌⊎◌, suc, ◌<◌, List, [], ◌∷◌, ◌++◌, refl, sym, ap, ◌∙◌, subst, inl, inr, arith, le_refl}
use Rattle.std.specs.Prelude.{Bool, true, false, if◌then◌else◌}
use Rattle.std.proofs.lemmas.List.{append_assoc, append-nil}
use Rattle.spec_execution.specs.Askings.{Question, Answer, Asking, is_answer}
use Rattle.spec_execution.specs.Bodies.{exec}
use Rattle.spec_execution.specs.Entering.{entry}
use Rattle.spec_execution.specs.Instantiation.{instantiate}
use Rattle.spec_execution.specs.Commands.{Finish, Replied, Early, command}
use Rattle.spec_execution.specs.Outcomes.{World, Outcome, Values, Branch, Return, Over, End, Waiting}
use Rattle.law_answers.specs.Fronts.{world_with, outcome_with, finish_with, outcome_heard, finish_heard, AsksAt, ComeToTheSame, AskTheSame, GoTogether, LawOfFronts}
use Rattle.law_answers.proofs.Dialogues.{Ending, at, Dialogue, Ends, Asks, held, Reads}
use Rattle.law_answers.proofs.CodeDialogues.{placed, code}
use Rattle.law_answers.proofs.DialoguesOfCalls.{entry_reads}
use Rattle.law_answers.proofs.DialoguesOfCode.{exec_reads}
use Rattle.law_answers.proofs.DialoguesOfCommands.{finish, finish_placed, command_reads}
use Rattle.law_answers.proofs.DialoguesOfInstantiation.{instantiate_reads}

module _ (E : Ending) (with_left : List Answer → E.Result → E.Result) (heard_by : E.Result → List Asking)
    (heard_placed : (o : E.Result) (h : List Asking) (l : List Answer) → heard_by (E.placed o h l) ≡ h)
    (heard_early : (e : End) (w : World) → heard_by (E.early e w) ≡ w.heard)
    (left_placed : (o : E.Result) (h : List Asking) (l l' : List Answer) → with_left l' (E.placed o h l) ≡ E.placed o h l')
    (left_early : (e : End) (w : World) (l' : List Answer) → with_left l' (E.early e w) ≡ E.early e (world_with l' w)) where
  -- what was heard stays in front
  record Grows (h : List Asking) (o : E.Result) : Type 0 where
    more : List Asking
    course : heard_by o ≡ h ++ more

  grows_none : (h : List Asking) (o : E.Result) → heard_by o ≡ h → Grows h o
  grows_none h o e = record { more = []; course = e ∙ sym (append-nil h) }

  grows_one : (h : List Asking) (asking : Asking) (o : E.Result) → Grows (h ++ asking ∷ []) o → Grows h o
  grows_one h asking o g = record {
    more = asking ∷ g.more;
    course = g.course ∙ append_assoc h (asking ∷ []) g.more;
  }

  grows_if : (b : Bool) (h : List Asking) (o o' : E.Result) → Grows h o → Grows h o' → Grows h (if b then o else o')
  grows_if true h o o' g g' = g
  grows_if false h o o' g g' = g'

  grows : (d : Dialogue E.Result) (h : List Asking) (l : List Answer) → Grows h (held E d h l)
  grows (Ends o) h l = grows_none h _ (heard_placed o h l)
  grows (Asks q w go) h [] = grows_none h _ (heard_early (Waiting q) (at w h []))
  grows (Asks q w go) h (a ∷ l) =
      grows_if (is_answer q a) h _ _ (grows_one h (q, a) _ (grows (go a) (h ++ (q, a) ∷ []) l))
      (grows_none h _ (heard_early (Waiting q) (at w h (a ∷ l))))

  -- ---- where the common answers end

  abbrev Here : List Asking → Question → E.Result → Type 0
  Here h q o = AsksAt E.early with_left heard_by h q o

  waits_here : (q : Question) (w : World) (h : List Asking) (l : List Answer) → Here h q (E.early (Waiting q) (at w h l))
  waits_here q w h l = inl (record { world = at w h l; waits = refl; place = refl })

  heard_here : (q : Question) (a : Answer) (h : List Asking) (o : E.Result) → Grows (h ++ (q, a) ∷ []) o → Here h q o
  heard_here q a h o g =
      inr (record { answer = a; more = g.more; course = g.course ∙ append_assoc h ((q, a) ∷ []) g.more })

  here_if : (b : Bool) (h : List Asking) (q : Question) (o o' : E.Result) → Here h q o → Here h q o' → Here h q (if b then o else o')
  here_if true h q o o' j j' = j
  here_if false h q o o' j j' = j'

  asks_here : (q : Question) (w : World) (go : Answer → Dialogue E.Result) (h : List Asking) (l : List Answer)
      → Here h q (held E (Asks q w go) h l)
  asks_here q w go h [] = waits_here q w h []
  asks_here q w go h (a ∷ l) =
      here_if (is_answer q a) h q _ _ (heard_here q a h _ (grows (go a) (h ++ (q, a) ∷ []) l)) (waits_here q w h (a ∷ l))

  -- ---- both runs

  module _ (rest rest' : List Answer) where
    abbrev Same : E.Result → E.Result → Type 0
    Same o o' = ComeToTheSame E.early with_left heard_by rest rest' o o'

    abbrev Both : List Asking → List Answer → E.Result → E.Result → Type 0
    Both h common o o' = Same o o' ⊎ AskTheSame E.early with_left heard_by h common o o'

    both_if :
        (b : Bool) (h : List Asking) (common : List Answer) (x x' y y' : E.Result) → Both h common x x' → Both h common y y'
        → Both h common (if b then x else y) (if b then x' else y')
    both_if true h common x x' y y' j k = j
    both_if false h common x x' y y' j k = k

    -- behind one more answer
    one_more :
        (q : Question) (a : Answer) (h : List Asking) (common : List Answer) (o o' : E.Result)
        → Both (h ++ (q, a) ∷ []) common o o' → Both h (a ∷ common) o o'
    one_more q a h common o o' (inl j) = inl j
    one_more q a h common o o' (inr j) =
        let e : (h ++ (q, a) ∷ []) ++ j.more ≡ h ++ ((q, a) ∷ j.more) = append_assoc h ((q, a) ∷ []) j.more in
        inr (record {
          more = (q, a) ∷ j.more;
          taken = ap (λ (answers : List Answer). a ∷ answers) j.taken;
          question = j.question;
          first = subst (λ g. Here g j.question o) e j.first;
          second = subst (λ g. Here g j.question o') e j.second;
        })

    together :
        (d : Dialogue E.Result) (h : List Asking) (common : List Answer)
        → Both h common (held E d h (common ++ rest)) (held E d h (common ++ rest'))
    together (Ends o) h common =
        inl (record {
          end = E.placed o h common;
          left = common;
          first = sym (left_placed o h common (common ++ rest));
          second = sym (left_placed o h common (common ++ rest'));
        })
    together (Asks q w go) h [] =
        let e : h ≡ h ++ [] = sym (append-nil h) in
        inr (record {
          more = [];
          taken = refl;
          question = q;
          first = subst (λ g. Here g q (held E (Asks q w go) h rest)) e (asks_here q w go h rest);
          second = subst (λ g. Here g q (held E (Asks q w go) h rest')) e (asks_here q w go h rest');
        })
    together (Asks q w go) h (a ∷ common) =
        both_if (is_answer q a) h (a ∷ common) _ _ _ _
        (one_more q a h common _ _ (together (go a) (h ++ (q, a) ∷ []) common))
        (inl (record {
          end = E.early (Waiting q) (at w h (a ∷ common));
          left = a ∷ common;
          first = sym (left_early (Waiting q) (at w h (a ∷ common)) (a ∷ (common ++ rest)));
          second = sym (left_early (Waiting q) (at w h (a ∷ common)) (a ∷ (common ++ rest')));
        }))

  pub go_together :
      (run : World → E.Result) (w : World) → Reads E (λ h l. run (at w h l)) → GoTogether E.early with_left heard_by run w
  go_together run w r common rest rest' =
      let d = r.dialogue in
      subst (λ (o : E.Result). Both rest rest' w.heard common o (run (world_with (common ++ rest') w)))
      (sym (r.is w.heard (common ++ rest)))
      (subst (λ (o : E.Result). Both rest rest' w.heard common (held E d w.heard (common ++ rest)) o)
      (sym (r.is w.heard (common ++ rest'))) (together rest rest' d w.heard common))

-- ---- the law

heard_placed : (o : Outcome) (h : List Asking) (l : List Answer) → outcome_heard (placed o h l) ≡ h
heard_placed (Values s) h l = refl
heard_placed (Branch k s) h l = refl
heard_placed (Return s) h l = refl
heard_placed (Over e w) h l = refl

left_placed :
    (o : Outcome) (h : List Asking) (l l' : List Answer) → outcome_with l' (placed o h l) ≡ placed o h l'
left_placed (Values s) h l l' = refl
left_placed (Branch k s) h l l' = refl
left_placed (Return s) h l l' = refl
left_placed (Over e w) h l l' = refl

code_together :
    (run : World → Outcome) (w : World) → Reads (code (suc w.turns) (suc w.turns)) (λ h l. run (at w h l))
    → GoTogether Over outcome_with outcome_heard run w
code_together run w r =
    go_together (code (suc w.turns) (suc w.turns)) outcome_with outcome_heard heard_placed (λ e v. refl) left_placed
    (λ e v l. refl) run w r

finish_heard_placed : (o : Finish) (h : List Asking) (l : List Answer) → finish_heard (finish_placed o h l) ≡ h
finish_heard_placed (Replied reply w) h l = refl
finish_heard_placed (Early e w) h l = refl

finish_left_placed :
    (o : Finish) (h : List Asking) (l l' : List Answer) → finish_with l' (finish_placed o h l) ≡ finish_placed o h l'
finish_left_placed (Replied reply w) h l l' = refl
finish_left_placed (Early e w) h l l' = refl

-- a world has fewer turns than one more than it has
here : (w : World) → w.turns < suc w.turns
here w = omega arith

pub law_of_fronts : LawOfFronts
law_of_fronts = record {
  calls = λ depth n args caller w.
      let k = suc w.turns in
      code_together (entry exec depth n args caller) w
      (entry_reads k k (le_refl k) (exec_reads k) depth n args caller w (here w));
  instantiations = λ depth w d imports.
      let k = suc w.turns in
      code_together (λ v. instantiate exec depth v d imports) w
      (instantiate_reads k k (le_refl k) (exec_reads k) depth d imports w (here w));
  commands = λ modules s c w.
      let k = suc w.turns in
      go_together (finish k) finish_with finish_heard finish_heard_placed (λ e v. refl) finish_left_placed (λ e v l. refl)
      (command exec modules s c) w (command_reads k (exec_reads k) modules s c w (here w));
}
