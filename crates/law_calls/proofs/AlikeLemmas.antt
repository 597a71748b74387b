-- Two calls by their clauses come to the same where the stores are the same inside of what the first reaches: the laws of
-- sight over the definitions, at the two worlds in which the calls began.
use Rattle.std.proofs.Common.{◌≡◌, ℕ, ◌+◌, List, [], ◌++◌, Some, refl, sym, ap, ◌∙◌, subst, arith}
use Rattle.std.specs.Prelude.{length, flat_map}
use Rattle.std.proofs.lemmas.Option.{same_Some}
use Rattle.wasm_syntax.specs.declared.declarations.ModuleDecl.{ModuleDecl}
use Rattle.wasm_values.specs.Handles.{instance_of}
use Rattle.wasm_values.specs.declared.externals.Extern.{Extern}
use Rattle.spec_machine.specs.Commands.{Row, Instantiate}
use Rattle.spec_machine.specs.Machine.{Machine}
use Rattle.spec_machine.specs.declared.reply.Reply.{Reply}
use Rattle.spec_machine.specs.declared.reply.Reply.TheVariants as reply
use Rattle.spec_execution.specs.Askings.{Asking, answers_in}
use Rattle.spec_execution.specs.Bodies.{exec}
use Rattle.spec_execution.specs.Commands.{Finish, Replied, Early, by_run, instance_reply, replied}
use Rattle.spec_execution.specs.Commands as commands
use Rattle.spec_execution.specs.Instantiation.{instantiate}
use Rattle.spec_execution.specs.Outcomes.{World, world, Outcome, Values, Branch, Return, Over, Trapped, Refused, Stopped}
use Rattle.spec_reach.specs.Inside.{SameInside}
use Rattle.spec_reach.specs.Nodes.{Node}
use Rattle.spec_reach.specs.Outside.{new_nodes}
use Rattle.spec_reach.specs.Reach.{in_object, reach}
use Rattle.spec_reach.specs.ReachLaws.{HoldsReach}
use Rattle.spec_reach.specs.Roots.{roots}
use Rattle.law_confined.specs.Laws.{left, left_by, all_roots}
use Rattle.law_confined.specs.Shown.{unshown}
use Rattle.law_confined.specs.Sight.{outcome_in, finish_in, SeesAlike}
use Rattle.law_confined.proofs.Sight.{law_s_of_sets}
use Rattle.wasm_call.specs.Calls.{call_row}
use Rattle.wasm_call.specs.Outcomes.{by_row, answer_of}
use Rattle.wasm_call.specs.Confined.{handled}
use Rattle.wasm_call.proofs.ConfinedLemmas.{left_at, scope_of, call_of, row_is, roots_are, same_left}
use Rattle.law_calls.specs.Alike.{Gave, AreAlike, CallsSeeAlike, InstantiationsSeeAlike}

-- ---- an end that is told, in another store

abbrev told : Reply → World → Reply × World
told answer v = (answer, v)

told_in :
    (t : Machine) (o : Finish) (answer : Reply) (v : World) → answer_of o ≡ Some (answer, v)
    → answer_of (finish_in t o) ≡ Some (answer, record v { machine = t })
told_in t (Replied answer' u) answer v e =
    ap (λ (p : Reply × World). Some (told p.0 (record p.1 { machine = t }))) (same_Some (told answer' u) (told answer v) e)
told_in t (Early Stopped u) answer v e =
    ap (λ (p : Reply × World). Some (told p.0 (record p.1 { machine = t }))) (same_Some (_, u) (told answer v) e)
told_in t (Early end u) answer v e = absurd cc

-- ---- two commands by their rows

module _ (row : Machine → Row) (from : List Node) (m m' : Machine) (set : List Node) (inside : SameInside set m m') where
  abbrev run : World → Finish
  run w = by_row (row w.machine) w

  abbrev began : List Asking → World
  began heard = world m m.engine.turns [] (answers_in heard ++ [])

  module _ (sees : (heard : List Asking) → HoldsReach m (all_roots from (began heard) (left_by (run (began heard)))) set
      → SeesAlike left_by finish_in run (began heard) set m') where
    see_alike :
        (after after' : Machine) (answer answer' : Reply) (turns turns' : ℕ)
        (first : Gave (row m) m answer after turns) (second : Gave (row m') m' answer' after' turns')
        → HoldsReach m (from ++ unshown m.id first.heard) set → answers_in second.heard ≡ answers_in first.heard
        → AreAlike set m after after' answer answer' turns turns' first.heard second.heard
    see_alike after after' answer answer' turns turns' first second holds same =
        let w : World = began first.heard in
        let e : answer_of (run w) ≡ Some (answer, world after first.left first.heard []) = first.ends [] [] in
        let is : left_by (run w) ≡ world after first.left first.heard [] =
        left_at (run w) answer (world after first.left first.heard []) e in
        let s : SeesAlike left_by finish_in run w set m' =
        sees first.heard
        (subst (λ (v : World). HoldsReach m (all_roots from w v) set) (sym is) holds) in
        let engines : m'.engine.turns ≡ m.engine.turns = ap (λ (z : Machine). z.engine.turns) inside.rest in
        let other : world m' m'.engine.turns [] (answers_in second.heard ++ []) ≡ record w { machine = m' } =
        λ i. world m' (engines i) [] (same i ++ []) in
        let e' : answer_of (finish_in s.after (run w)) ≡ Some (answer', world after' second.left second.heard []) =
        sym (ap (λ (o : Finish). answer_of o) (ap run other ∙ s.same)) ∙ second.ends [] [] in
        let both : told answer' (world after' second.left second.heard [])
        ≡ told answer (world s.after first.left first.heard []) =
        same_Some _ _ (sym e' ∙ told_in s.after (run w) answer (world after first.left first.heard []) e) in
        let lefts : second.left ≡ first.left = ap (λ (p : Reply × World). p.1.turns) both in
        record {
          answers = ap (λ (p : Reply × World). p.0) both;
          same_turns = omega (arith, first.within, second.within, lefts, engines);
          same_heard = ap (λ (p : Reply × World). p.1.heard) both;
          inside =
              subst (λ (n : Machine). SameInside (reach n (set ++ new_nodes m n)) n after')
              (ap (λ (v : World). v.machine) is)
              (subst (λ (t : Machine). SameInside (reach (left_by (run w)).machine
              (set ++ new_nodes m (left_by (run w)).machine)) (left_by (run w)).machine t)
              (sym (ap (λ (p : Reply × World). p.1.machine) both)) s.inside);
        }

-- ---- calls: each is the command of a scope in which the function was stored

pub calls_see_alike : CallsSeeAlike
calls_see_alike m m' f args wanted after after' answer answer' turns turns' set first second holds inside same =
    see_alike (λ n. call_row n f args wanted) (handled m.id f args) m m' set inside sees after after' answer answer' turns
    turns' first second holds same
  where
    run_is : (w : World) → commands.command exec [] (scope_of f) (call_of f args wanted) w
        ≡ by_row (call_row w.machine f args wanted) w
    run_is w = ap (λ (r : Row). by_row r w) (row_is w.machine f args wanted)

    sees :
        (heard : List Asking)
        → let w = world m m.engine.turns [] (answers_in heard ++ []) in
        HoldsReach m (all_roots (handled m.id f args) w (left_by (by_row (call_row m f args wanted) w))) set
        → SeesAlike left_by finish_in (λ u. by_row (call_row u.machine f args wanted) u) w set m'
    sees heard h =
        let w : World = world m m.engine.turns [] (answers_in heard ++ []) in
        let k : SeesAlike left_by finish_in (commands.command exec [] (scope_of f) (call_of f args wanted)) w set m' =
        law_s_of_sets.commands [] (scope_of f) (call_of f args wanted) w set
        (subst (λ (o : Finish). HoldsReach m (all_roots (roots m.id (scope_of f) (call_of f args wanted)) w (left_by o)) set)
        (sym (run_is w))
        (subst (λ (ns : List Node). HoldsReach m (all_roots ns w (left_by (by_row (call_row m f args wanted) w))) set)
        (sym (roots_are m.id f args wanted)) h)) m' inside in
        subst (λ (run : World → Finish). SeesAlike left_by finish_in run w set m') (λ i. λ u. run_is u i) k

-- ---- instantiations

same_instance :
    (m m' t : Machine) → m'.id ≡ m.id → length m'.instances ≡ length m.instances → (o : Outcome)
    → by_run Early (instance_reply m') replied (outcome_in t o) ≡ finish_in t (by_run Early (instance_reply m) replied o)
same_instance m m' t e k (Values s) =
    λ i. Replied (reply.Instance (instance_of (e i) (k i))) (record s.world { machine = t })
same_instance m m' t e k (Branch l s) = refl
same_instance m m' t e k (Return s) = refl
same_instance m m' t e k (Over (Trapped trap) w) = refl
same_instance m m' t e k (Over (Refused why) w) = refl
same_instance m m' t e k (Over end w) = refl

abbrev made : ModuleDecl → List Extern → World → Outcome
made d imports w = instantiate exec 0 w d imports

pub instantiations_see_alike : InstantiationsSeeAlike
instantiations_see_alike m m' d imports after after' answer answer' turns turns' set first second holds inside same =
    see_alike (λ n. Instantiate d imports) (flat_map (in_object m.id) imports) m m' set inside sees after after' answer
    answer' turns turns' first second holds same
  where
    sees :
        (heard : List Asking)
        → let w = world m m.engine.turns [] (answers_in heard ++ []) in
        HoldsReach m (all_roots (flat_map (in_object m.id) imports) w (left_by (by_row (Instantiate d imports) w))) set
        → SeesAlike left_by finish_in (λ u. by_row (Instantiate d imports) u) w set m'
    sees heard h =
        let w : World = world m m.engine.turns [] (answers_in heard ++ []) in
        let is : left_by (by_row (Instantiate d imports) w) ≡ left (made d imports w) = same_left (instance_reply m) (made d imports w) in
        let k : SeesAlike left outcome_in (made d imports) w set m' =
        law_s_of_sets.instantiations 0 w d imports set
        (subst (λ (v : World). HoldsReach m (all_roots (flat_map (in_object m.id) imports) w v) set) is h) m' inside in
        record {
          after = k.after;
          same =
              ap (λ (o : Outcome). by_run Early (instance_reply m') replied o) k.same
              ∙ same_instance m m' k.after (ap (λ (z : Machine). z.id) inside.rest) inside.as_many_instances (made d imports w);
          inside =
              subst (λ (v : World). SameInside (reach v.machine (set ++ new_nodes m v.machine)) v.machine k.after) (sym is)
              k.inside;
        }
