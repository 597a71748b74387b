-- Two runs side by side: host functions, whose steps stand behind turns.
use Rattle.std.proofs.Common.{◌≡◌, ℕ, zero, suc, List, [], refl, sym, ap, ◌∙◌, subst, arith}
use Rattle.std.specs.Prelude.{◌&&◌, map, reverse, Ok, Err}
use Rattle.std.specs.List.{list_all}
use Rattle.wasm_types.specs.declared.value_types.ValType.{ValType}
use Rattle.wasm_values.specs.declared.refusals.Refusal.TheVariants as refusal
use Rattle.wasm_values.specs.declared.values.Val.{Val}
use Rattle.spec_machine.specs.Values.{owns_val, raw_val, all_fit}
use Rattle.spec_execution.specs.Activations.{Activation, scope_of, replied}
use Rattle.spec_execution.specs.Askings.{Answer, Stepped}
use Rattle.spec_execution.specs.Entering.{Exec, Step}
use Rattle.spec_execution.specs.Hosts.{returned, go_on, said, stepped, question, step_with, step}
use Rattle.spec_execution.specs.Outcomes.{World, state, Refused, Exhausted, Stuck}
use Rattle.spec_execution.specs.declared.answer.Answer.{Answer as Say}
use Rattle.spec_execution.specs.declared.answer.Answer.TheVariants as say
use Rattle.spec_execution.specs.declared.answer.Event.{Event}
use Rattle.spec_execution.specs.declared.answer.Event.TheVariants.{Replied}
use Rattle.spec_execution.proofs.Ways.{Way, shift, Below, Alike, Fits, code_ends, values, over, either, hear_alike, one_turn}
use Rattle.spec_execution.proofs.WaysOfCommands.{operation_alike}

module _ (W : Way) (n : ℕ) where
  returned_alike :
      (w : World) (results : List ValType) (vals : List Val) → Below W n w
      → Alike W n (returned w results vals) (returned (shift W w) results vals)
  returned_alike w results vals b =
      either W n (list_all (owns_val w.machine) vals && all_fit w.machine vals results) _ _ _ _
      (values W n (state w [] (reverse (map raw_val vals))) b) (over W n (Refused refusal.HostResultType) w b.held)

  module _ (f g : Exec) (all : (V : Way) → Fits V n f g) where
    said_alike :
        (a : Activation) (what : Say) (w : World) → Below W n w
        → Alike W n (said f a what w) (said g a what (shift W w))
    said_alike a (say.Return vals) w b = returned_alike w a.results vals b
    said_alike a say.Fail w b = over W n (Refused refusal.HostFault) w b.held
    said_alike a (say.Call op) w b =
        operation_alike W (code_ends W n) n f g all (suc a.depth) (scope_of w.machine a) op w (go_on f a) (go_on g a)
        (λ v answer c. (all W).by (Step (replied a answer) Replied) (state v [] []) c) b

    stepped_alike :
        (a : Activation) (t : ℕ) (answer : Answer) (w : World) → w.turns ≡ suc t → Below W (suc n) w
        → Alike W n (stepped f a t answer w) (stepped g a (W.turns t) answer (shift W w))
    stepped_alike a t (Stepped after (Ok what)) w e b =
        said_alike (record a { state = after }) what (record w { turns = t }) (one_turn W n w t e b)
    stepped_alike a t (Stepped after (Err no_memory)) w e b = over W n Exhausted w b.held
    stepped_alike a t answer w e b = over W n Stuck w b.held

    step_with_alike :
        (a : Activation) (event : Event) (w : World) (k : ℕ) → w.turns ≡ k → Below W (suc n) w
        → Alike W n (step_with f a event w k) (step_with g a event (shift W w) (W.turns k))
    step_with_alike a event w zero e b =
        record { by = (λ c. ap (step_with g a event (shift W w)) (W.no_turn c), b.held) }
    step_with_alike a event w (suc t) e b =
        subst (λ (k : ℕ). Alike W n (step_with f a event w (suc t)) (step_with g a event (shift W w) k))
        (sym (W.a_turn t))
        (hear_alike W (code_ends W n) w (question a event w) (stepped f a t) (stepped g a (W.turns t)) w.answers refl
        b.held
        (λ answer v e' h.
        stepped_alike a t answer v (e' ∙ e) (record { fewer = omega (arith, b.fewer); held = h })))

    pub step_alike :
        (a : Activation) (event : Event) (w : World) → Below W (suc n) w
        → Alike W n (step f a event w) (step g a event (shift W w))
    step_alike a event w b = step_with_alike a event w w.turns refl b
