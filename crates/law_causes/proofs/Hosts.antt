-- A function of the host, step by step: it refuses by its own fault where a step failed.
use Rattle.std.proofs.Common.{ℕ, zero, suc, List, [], refl}
use Rattle.std.specs.Prelude.{◌&&◌, map, reverse, Ok, Err}
use Rattle.std.specs.List.{list_all}
use Rattle.wasm_types.specs.declared.value_types.ValType.{ValType}
use Rattle.wasm_values.specs.declared.refusals.Refusal.TheVariants as refusal
use Rattle.wasm_values.specs.declared.values.Val.{Val}
use Rattle.spec_machine.specs.Values.{owns_val, raw_val, all_fit}
use Rattle.spec_machine.specs.declared.operation.Op.{Op}
use Rattle.spec_execution.specs.Activations.{Activation, scope_of, replied}
use Rattle.spec_execution.specs.Askings.{Answer, Stepped, Asking}
use Rattle.spec_execution.specs.Entering.{Step, Exec}
use Rattle.spec_execution.specs.Hosts.{returned, go_on, said, stepped, question, step_with, step}
use Rattle.spec_execution.specs.Outcomes.{World, state, Over, Refused, Stopped, Exhausted, Stuck}
use Rattle.spec_execution.specs.declared.answer.Answer.TheVariants as say
use Rattle.spec_execution.specs.declared.answer.Event.{Event}
use Rattle.spec_execution.specs.declared.answer.Event.TheVariants.{Replied}
use Rattle.law_causes.specs.Causes.{Reasons}
use Rattle.law_causes.proofs.Worlds.{Since, Behind, Ends, either, hear_since, since_lasts, caused_own, caused_behind}
use Rattle.law_causes.proofs.Outcomes.{Keeps, Good, code_ends, values_keeps}
use Rattle.law_causes.proofs.Operations.{operation_since}

module _ (B : List Asking) (reason : Reasons) (f : Exec) (good : Good B reason f) where
  abbrev ends : Ends B Over reason (Keeps B reason)
  ends = code_ends B reason

  returned_keeps :
      (w : World) (results : List ValType) (vals : List Val) → Since B w → Keeps B reason (returned w results vals)
  returned_keeps w results vals h =
      either B ends (list_all (owns_val w.machine) vals && all_fit w.machine vals results) _ _
      (values_keeps B reason (state w [] (reverse (map raw_val vals))) h)
      (ends.by (Refused refusal.HostResultType) w
      (caused_own B reason refusal.HostResultType w tt (good.own refusal.HostResultType tt) h))

  asked_keeps : (a : Activation) (op : Op) (w : World) → Since B w → Keeps B reason (said f a (say.Call op) w)
  asked_keeps a op w h =
      operation_since B reason ends (go_on f a)
      (λ v answer k. good.code (Step (replied a answer) Replied) (state v [] []) k) f good (suc a.depth)
      (scope_of w.machine a) op w h

  stepped_keeps :
      (a : Activation) (turns : ℕ) (answer : Answer) (w : World) → Since B w → Behind B answer w
      → Keeps B reason (stepped f a turns answer w)
  stepped_keeps a turns (Stepped after (Ok (say.Return vals))) w h b =
      returned_keeps (record w { turns = turns }) a.results vals (record { more = h.more; course = h.course })
  stepped_keeps a turns (Stepped after (Ok say.Fail)) w h b =
      ends.by (Refused refusal.HostFault) (record w { turns = turns })
      (caused_behind B reason refusal.HostFault (Stepped after (Ok say.Fail)) (record w { turns = turns })
      (record { question = b.question; before = b.before; course = b.course }) refl)
  stepped_keeps a turns (Stepped after (Ok (say.Call op))) w h b =
      asked_keeps (record a { state = after }) op (record w { turns = turns })
      (record { more = h.more; course = h.course })
  stepped_keeps a turns (Stepped after (Err no_memory)) w h b = ends.by Exhausted w h
  stepped_keeps a turns answer w h b = ends.by Stuck w h

  step_with_keeps :
      (a : Activation) (event : Event) (w : World) (k : ℕ) → Since B w → Keeps B reason (step_with f a event w k)
  step_with_keeps a event w zero h = ends.by Stopped w h
  step_with_keeps a event w (suc turns) h =
      hear_since B ends (since_lasts B) w (question a event w) _ w.answers h (stepped_keeps a turns)

  pub step_keeps : (a : Activation) (event : Event) (w : World) → Since B w → Keeps B reason (step f a event w)
  step_keeps a event w h = step_with_keeps a event w w.turns h
