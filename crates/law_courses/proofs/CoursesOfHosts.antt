-- A run beside another: steps of functions of the host.
use Rattle.std.proofs.Common.{◌≡◌, ℕ, zero, suc, List, [], ◌∷◌, ◌++◌, refl, sym, subst, inl, inr, arith}
use Rattle.std.specs.Prelude.{Bool, true, false, ◌&&◌, if◌then◌else◌, map, reverse, Ok, Err}
use Rattle.std.specs.List.{list_all}
use Rattle.wasm_values.specs.declared.refusals.Refusal.TheVariants as refusal
use Rattle.wasm_values.specs.declared.values.Val.{Val}
use Rattle.spec_machine.specs.Commands.{Row}
use Rattle.spec_machine.specs.Commands as machine
use Rattle.spec_machine.specs.Values.{owns_val, raw_val, all_fit}
use Rattle.law_store.proofs.Lists.{each_none}
use Rattle.spec_execution.specs.Activations.{Activation, scope_of, replied}
use Rattle.spec_execution.specs.Askings.{View, Stepping, Answer, Stepped}
use Rattle.spec_execution.specs.Bodies.{exec}
use Rattle.spec_execution.specs.Commands.{perform}
use Rattle.spec_execution.specs.Entering.{Step}
use Rattle.spec_execution.specs.Hosts.{returned, go_on, said, stepped, question, step_with, step}
use Rattle.spec_execution.specs.Outcomes.{World, state, Values, Over, Refused, Stopped, Exhausted, Stuck, hear}
use Rattle.spec_execution.specs.declared.answer.Answer.{Answer as Say}
use Rattle.spec_execution.specs.declared.answer.Answer.TheVariants as say
use Rattle.spec_execution.specs.declared.answer.Event.{Event}
use Rattle.spec_execution.specs.declared.answer.Event.TheVariants.{Replied}
use Rattle.law_courses.proofs.Bounds.{Bounds, AreHeld, Turns}
use Rattle.law_courses.proofs.Courses.{twin, Inside, Below, Alike, code_ends, values, over, hear_alike, inside_heard, inside_turns}
use Rattle.law_courses.proofs.CoursesOfCalls.{Keeps, bare}
use Rattle.law_courses.proofs.CoursesOfCommands.{perform_alike}
use Rattle.law_courses.proofs.StrayLemmas.{exec_lost, said_lost}

module _ (B : Bounds) (T : Turns B) (n : ℕ) (keeps : Keeps B n) where
  -- by the test of what is returned, which is the same in both stores
  returned_by :
      (v : World) (vals : List Val) (b : Bool) → (b ≡ true → AreHeld B (reverse (map raw_val vals))) → Below B n v
      → Alike B n
      (if b then Values (state v [] (reverse (map raw_val vals))) else Over (Refused refusal.HostResultType) v)
      (if b then Values (state (twin B v) [] (reverse (map raw_val vals)))
      else Over (Refused refusal.HostResultType) (twin B v))
  returned_by v vals true held b =
      values B n (state v [] (reverse (map raw_val vals)))
      (record { world = b; locals = each_none B.IsHeld; operands = held refl })
  returned_by v vals false held b = over B n (Refused refusal.HostResultType) v b.held

  returned_alike :
      (a : Activation) (v : World) (vals : List Val) → B.IsOpen a → B.IsSaid a (say.Return vals) → Below B n v
      → Alike B n (returned v a.results vals) (returned (twin B v) a.results vals)
  returned_alike a v vals o s b =
      let k = T.returns v.machine a vals b.held.store o s in
      subst (λ (c : Bool). Alike B n (returned v a.results vals)
      (if c then Values (state (twin B v) [] (reverse (map raw_val vals)))
      else Over (Refused refusal.HostResultType) (twin B v))) (sym k.1)
      (returned_by v vals (list_all (owns_val v.machine) vals && all_fit v.machine vals a.results) k.0 b)

  said_alike :
      (a : Activation) (what : Say) (v : World) → B.IsOpen a → B.IsSaid a what → Below B n v
      → Alike B n (said exec a what v) (said exec a what (twin B v))
  said_alike a (say.Return vals) v o s b = returned_alike a v vals o s b
  said_alike a say.Fail v o s b = over B n (Refused refusal.HostFault) v b.held
  said_alike a (say.Call op) v o s b =
      let k = T.operates v.machine a op b.held.store o s in
      subst (λ (r : Row). Alike B n (said exec a (say.Call op) v)
      (perform Over exec (suc a.depth) (twin B v) r (go_on exec a))) (sym k.1)
      (perform_alike B T (code_ends B n) n (go_on exec a) (go_on exec a)
      (record {
        by =
            λ u answer c r. keeps.by (Step (replied a answer) Replied) (state u [] []) (T.replies a answer o r)
            (bare B T n u c);
        lost = λ u answer o' h. record { by = inr (exec_lost B T (Step (replied a answer) Replied) (state u [] []) h) };
      }) keeps (suc a.depth) v (machine.operation v.machine (scope_of v.machine a) op) k.0 b)

  module _ (a : Activation) (event : Event) (v : World) (o : B.IsOpen a) (h : Inside B v) (t : ℕ) (few : v.turns ≡ suc t)
      (below : Below B (suc n) v) where
    abbrev heard : Answer → List Answer → World
    heard answer rest = record v { heard = v.heard ++ (question a event v, answer) ∷ []; answers = rest }

    stepped_alike :
        (answer : Answer) (rest : List Answer)
        → Alike B n (stepped exec a t answer (heard answer rest)) (stepped exec a t answer (twin B (heard answer rest)))
    stepped_alike (Stepped after (Ok what)) rest =
        let a' : Activation = record a { state = after } in
        let u : World = record (heard (Stepped after (Ok what)) rest) { turns = t } in
        elim (T.says v a event after what h.store h.began o) [
          | inl s ↦ said_alike a' what u (T.stepped a after o) (T.said_on a after what s)
              (record {
                fewer = omega (arith, below.fewer, few);
                held = inside_turns B T _ t (inside_heard B T v (question a event v) (Stepped after (Ok what)) rest h);
              })
          | inr s ↦ record { by = inr (said_lost B T a' what u s) }
        ]
    stepped_alike (Stepped after (Err no_memory)) rest =
        over B n Exhausted _ (inside_heard B T v (question a event v) (Stepped after (Err no_memory)) rest h)
    stepped_alike answer rest =
        over B n Stuck _ (inside_heard B T v (question a event v) answer rest h)

  step_with_alike :
      (a : Activation) (event : Event) (v : World) (k : ℕ) → v.turns ≡ k → B.IsOpen a → Below B (suc n) v
      → Alike B n (step_with exec a event v k) (step_with exec a event (twin B v) k)
  step_with_alike a event v zero e o b = over B n Stopped v b.held
  step_with_alike a event v (suc t) e o b =
      subst (λ (x : View). Alike B n (step_with exec a event v (suc t))
      (hear Over (twin B v) (Stepping a.body a.state event x) (stepped exec a t) v.answers))
      (sym (T.view_is v.machine a b.held.store o))
      (hear_alike B T (code_ends B n) v (question a event v) (stepped exec a t) (stepped exec a t) v.answers b.held
      (λ answer rest. stepped_alike a event v o b.held t e b answer rest))

  pub step_alike :
      (a : Activation) (event : Event) (v : World) → B.IsOpen a → Below B (suc n) v
      → Alike B n (step exec a event v) (step exec a event (twin B v))
  step_alike a event v o b = step_with_alike a event v v.turns refl o b
