-- A host function at work: a dialogue of steps, each of which returns, fails, or asks for an operation whose reply the
-- next step sees. This project's own, in place of the wasmtime crate's closures.
use Rattle.std.specs.Prelude.{ℕ, zero, suc, ◌&&◌, List, [], map, reverse, Ok, Err, if◌then◌else◌}
use Rattle.std.specs.List.{list_all}
use Rattle.wasm_types.specs.declared.value_types.ValType.{ValType}
use Rattle.wasm_values.specs.declared.refusals.Refusal.TheVariants as refusal
use Rattle.wasm_values.specs.declared.values.Val.{Val}
use Rattle.spec_machine.specs.Values.{owns_val, raw_val, all_fit}
use Rattle.spec_machine.specs.declared.reply.Reply.{Reply}
use Rattle.spec_execution.specs.Activations.{Activation, view, scope_of, replied}
use Rattle.spec_execution.specs.Askings.{Question, Stepping, Answer, Stepped}
use Rattle.spec_execution.specs.Commands.{operation}
use Rattle.spec_execution.specs.Entering.{Exec, Step}
use Rattle.spec_execution.specs.Outcomes.{World, state, Outcome, Values, Over, Refused, Stopped, Exhausted, Stuck, hear}
use Rattle.spec_execution.specs.declared.answer.Answer.{Answer as Say}
use Rattle.spec_execution.specs.declared.answer.Answer.TheVariants as say
use Rattle.spec_execution.specs.declared.answer.Event.{Event}
use Rattle.spec_execution.specs.declared.answer.Event.TheVariants.{Replied}

-- what it returns: as many values as results, of this store, each of its type
abbrev pub returned : World → List ValType → List Val → Outcome
returned w results vals =
    if list_all (owns_val w.machine) vals && all_fit w.machine vals results
    then Values (state w [] (reverse (map raw_val vals))) else Over (Refused refusal.HostResultType) w

-- the step behind the reply to an operation
abbrev pub go_on : Exec → Activation → World → Reply → Outcome
go_on f a w answer = f (Step (replied a answer) Replied) (state w [] [])

-- what a step comes to; this function is open around an operation that it asks for
abbrev pub said : Exec → Activation → Say → World → Outcome
said f a (say.Return vals) w = returned w a.results vals
said f a say.Fail w = Over (Refused refusal.HostFault) w
said f a (say.Call op) w = operation Over f (suc a.depth) (scope_of w.machine a) op w (go_on f a)

-- a step takes a turn, but one that had no memory
abbrev pub stepped : Exec → Activation → ℕ → Answer → World → Outcome
stepped f a turns (Stepped after (Ok what)) w =
    said f (record a { state = after }) what (record w { turns = turns })
stepped f a turns (Stepped after (Err no_memory)) w = Over Exhausted w
stepped f a turns _ w = Over Stuck w

abbrev pub question : Activation → Event → World → Question
question a event w = Stepping a.body a.state event (view w.machine a)

abbrev pub step_with : Exec → Activation → Event → World → ℕ → Outcome
step_with f a event w zero = Over Stopped w
step_with f a event w (suc turns) = hear Over w (question a event w) (stepped f a turns) w.answers

abbrev pub step : Exec → Activation → Event → World → Outcome
step f a event w = step_with f a event w w.turns
