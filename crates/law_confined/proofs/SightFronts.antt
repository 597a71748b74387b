-- Answers that begin alike, in two stores: by sight the run from the other store is the same one, and by the law on fronts
-- another rest of answers changes nothing before the common ones end.
use Rattle.std.proofs.Common.{◌≡◌, ◌⊎◌, List, ◌++◌, refl, sym, ap, ◌∙◌, subst, inl, inr}
use Rattle.spec_machine.specs.Machine.{Machine}
use Rattle.spec_execution.specs.Askings.{Question, Answer, Asking}
use Rattle.spec_execution.specs.Bodies.{exec}
use Rattle.spec_execution.specs.Commands.{Finish, Replied, Early, command}
use Rattle.spec_execution.specs.Entering.{entry}
use Rattle.spec_execution.specs.Instantiation.{instantiate}
use Rattle.spec_execution.specs.Outcomes.{World, Outcome, Values, Branch, Return, Over, End, Waiting}
use Rattle.spec_reach.specs.Nodes.{Node}
use Rattle.law_answers.specs.Fronts.{world_with, outcome_with, finish_with, outcome_heard, finish_heard, WaitsAt, AsksAt, ComeToTheSame, AskTheSame, GoTogether}
use Rattle.law_answers.proofs.FrontLemmas.{law_of_fronts}
use Rattle.law_confined.specs.Laws.{left, left_by}
use Rattle.law_confined.specs.Sight.{outcome_in, finish_in, SeesAlike}
use Rattle.law_confined.specs.SightFronts.{SeeFronts, LawSOfFronts}
use Rattle.law_confined.proofs.Sight.{law_s_of_sets}

module _ {O : Type 0} (early : End → World → O) (with_left : List Answer → O → O) (heard_by : O → List Asking)
    (left_of : O → World) (in_store : Machine → O → O)
    (heard_in : (t : Machine) (o : O) → heard_by (in_store t o) ≡ heard_by o)
    (waits_in : (t : Machine) (o : O) (q : Question) (v : World) → in_store t o ≡ early (Waiting q) v
    → WaitsAt early with_left heard_by v.heard q o) where
  -- what asks in another store asked in the first
  asks_before :
      (t : Machine) (h : List Asking) (q : Question) (o : O) → AsksAt early with_left heard_by h q (in_store t o)
      → AsksAt early with_left heard_by h q o
  asks_before t h q o (inl k) =
      inl (subst (λ g. WaitsAt early with_left heard_by g q o) k.place (waits_in t o q k.world k.waits))
  asks_before t h q o (inr k) =
      inr (record { answer = k.answer; more = k.more; course = sym (heard_in t o) ∙ k.course })

  both :
      (t : Machine) (before : List Asking) (common rest rest' : List Answer) (o o2 o' : O) → o2 ≡ in_store t o
      → ComeToTheSame early with_left heard_by rest rest' o2 o' ⊎ AskTheSame early with_left heard_by before common o2 o'
      → ComeToTheSame early with_left heard_by rest rest' (in_store t o) o'
      ⊎ AskTheSame early with_left heard_by before common o o'
  both t before common rest rest' o o2 o' e (inl k) =
      inl (record { end = k.end; left = k.left; first = sym e ∙ k.first; second = k.second })
  both t before common rest rest' o o2 o' e (inr k) =
      inr (record {
        more = k.more;
        taken = k.taken;
        question = k.question;
        first =
            asks_before t (before ++ k.more) k.question o
            (subst (AsksAt early with_left heard_by (before ++ k.more) k.question) e k.first);
        second = k.second;
      })

  pub see_fronts :
      (run : World → O) (w : World) (set : List Node) (second : Machine) (common rest rest' : List Answer)
      → SeesAlike left_of in_store run (world_with (common ++ rest) w) set second
      → GoTogether early with_left heard_by run (record w { machine = second })
      → SeeFronts early with_left heard_by left_of in_store w set common rest rest' (run (world_with (common ++ rest) w))
      (run (world_with (common ++ rest') (record w { machine = second })))
  see_fronts run w set second common rest rest' s g = record {
    after = s.after;
    inside = s.inside;
    go =
        both s.after w.heard common rest rest' (run (world_with (common ++ rest) w)) _
        (run (world_with (common ++ rest') (record w { machine = second }))) s.same (g common rest rest');
  }

-- ---- outcomes and finishes

waiting_is : (e : End) (q : Question) (v u : World) → Over e v ≡ Over (Waiting q) u → e ≡ Waiting q
waiting_is e q v u p = cc

outcome_heard_in : (t : Machine) (o : Outcome) → outcome_heard (outcome_in t o) ≡ outcome_heard o
outcome_heard_in t (Values s) = refl
outcome_heard_in t (Branch l s) = refl
outcome_heard_in t (Return s) = refl
outcome_heard_in t (Over e v) = refl

outcome_waits_in :
    (t : Machine) (o : Outcome) (q : Question) (v : World) → outcome_in t o ≡ Over (Waiting q) v
    → WaitsAt Over outcome_with outcome_heard v.heard q o
outcome_waits_in t (Values s) q v e = absurd cc
outcome_waits_in t (Branch l s) q v e = absurd cc
outcome_waits_in t (Return s) q v e = absurd cc
outcome_waits_in t (Over end u) q v e = record {
  world = u;
  waits = ap (λ (x : End). Over x u) (waiting_is end q (record u { machine = t }) v e);
  place = ap outcome_heard e;
}

finish_waiting_is : (e : End) (q : Question) (v u : World) → Early e v ≡ Early (Waiting q) u → e ≡ Waiting q
finish_waiting_is e q v u p = cc

finish_heard_in : (t : Machine) (o : Finish) → finish_heard (finish_in t o) ≡ finish_heard o
finish_heard_in t (Replied answer v) = refl
finish_heard_in t (Early e v) = refl

finish_waits_in :
    (t : Machine) (o : Finish) (q : Question) (v : World) → finish_in t o ≡ Early (Waiting q) v
    → WaitsAt Early finish_with finish_heard v.heard q o
finish_waits_in t (Replied answer u) q v e = absurd cc
finish_waits_in t (Early end u) q v e = record {
  world = u;
  waits = ap (λ (x : End). Early x u) (finish_waiting_is end q (record u { machine = t }) v e);
  place = ap finish_heard e;
}

pub law_s_of_fronts : LawSOfFronts
law_s_of_fronts = record {
  calls = λ depth n args caller w common rest rest' set second holds inside.
      see_fronts Over outcome_with outcome_heard left outcome_in outcome_heard_in outcome_waits_in
      (entry exec depth n args caller) w set second common rest rest'
      (law_s_of_sets.calls depth n args caller (world_with (common ++ rest) w) set holds second inside)
      (law_of_fronts.calls depth n args caller (record w { machine = second }));
  instantiations = λ depth w d imports common rest rest' set second holds inside.
      see_fronts Over outcome_with outcome_heard left outcome_in outcome_heard_in outcome_waits_in
      (λ u. instantiate exec depth u d imports) w set second common rest rest'
      (law_s_of_sets.instantiations depth (world_with (common ++ rest) w) d imports set holds second inside)
      (law_of_fronts.instantiations depth (record w { machine = second }) d imports);
  commands = λ modules s c w common rest rest' set second holds inside.
      see_fronts Early finish_with finish_heard left_by finish_in finish_heard_in finish_waits_in
      (command exec modules s c) w set second common rest rest'
      (law_s_of_sets.commands modules s c (world_with (common ++ rest) w) set holds second inside)
      (law_of_fronts.commands modules s c (record w { machine = second }));
}
