-- Functions of the host among those of instances: what is due where code, or a body of the host, waits for another
-- function. This project's own; WebAssembly core specification, "Execution, runtime structure": stack.
use Rattle.std.specs.Prelude.{◌≡◌, List, [], ◌∷◌, reverse}
use Rattle.wasm_types.specs.declared.value_types.ValType.{ValType}
use Rattle.wasm_meter.specs.declared.call_hook.CallHook.TheVariants as event
use Rattle.wasm_values.specs.declared.store_id.StoreId.{StoreId}
use Rattle.spec_machine.specs.Machine.{Machine, EngineParts}
use Rattle.spec_machine.specs.declared.reply.Reply.{Reply}
use Rattle.spec_machine.specs.declared.reply.Reply.TheVariants as reply
use Rattle.spec_execution.specs.Activations.{Activation}
use Rattle.spec_execution.specs.Bodies.{exec}
use Rattle.spec_execution.specs.Checks.{pass_behind}
use Rattle.spec_execution.specs.Commands.{by_run}
use Rattle.spec_execution.specs.Entering.{Step, values_at}
use Rattle.spec_execution.specs.Hosts.{go_on}
use Rattle.spec_execution.specs.Outcomes.{State, state, Outcome, Over}
use Rattle.spec_execution.specs.declared.answer.Event.{Event}
use Rattle.store_state.specs.Machine.{run_machine}
use Rattle.store_state.specs.Parts.{ProgramParts, HeldParts}
use Rattle.code_stack.specs.Layers.{resumed}
use Rattle.code_leaps.specs.Leading.{Doing, Setting}
use Rattle.code_run.specs.Pausing.{due}
use Rattle.code_stack.specs.Steps.{taken_by}
use Rattle.code_run.specs.Steps.{seen}
use Rattle.code_stack.specs.declared.rules.Rules.{Rules}
use Rattle.code_stack.specs.declared.steps.HostCall.{HostCall}
use Rattle.code_run.specs.declared.thread.Thread.{Thread}
use Rattle.code_hosts.specs.Entering.{IsBounded}
use Rattle.code_hosts.specs.declared.bounds.Bounds.{Bounds}

-- what a call's rules take from the engine of its store
abbrev pub AreRulesOf : EngineParts → Rules → Type 0
AreRulesOf engine rules =
    (engine.frames ≡ rules.frames) × (engine.consumes_fuel ≡ rules.consumes_fuel) ×
    (engine.reads_epochs ≡ rules.reads_epochs)

-- what holds of the rest of the store in a call: its bounds, whom it asks, and the id and the engine that steps see
pub record IsOpen (bounds : Bounds) (id : StoreId) (engine : EngineParts) (base : Machine) : Type 0 where
  pub bounded : IsBounded bounds base
  pub id_is : base.id ≡ id
  pub engine_is : base.engine ≡ engine
  pub behaving_is : base.is_behaving ≡ bounds.rules.behaving

-- the stores of a call
abbrev pub opened : ProgramParts → Bounds → StoreId → EngineParts → Setting HeldParts
opened program bounds id engine =
    record { is_base = IsOpen bounds id engine; put = λ base held. run_machine base program held }

-- a step of a body is due
abbrev pub stepping : Activation → Event → Doing
stepping a event w = exec (Step a event) (state w [] [])

-- what is at work, and with it the border behind a function of the host
pub data Open : Type 0 where
  Code : Thread → Open
  Body : Activation → Event → Open

abbrev pub does : Open → Doing
does (Code t) = due t
does (Body a why) = λ w. pass_behind event.ReturningFromHost (stepping a why w)

-- the reply to a call of a function with these results
abbrev pub reply_of : List ValType → State → Reply
reply_of types s = reply.Values (values_at s.world.machine types (reverse s.operands))

-- what waits for another function: code that called one of the host, or a function of the host that asked for the call of
-- one with these results
pub data Waiting : Type 0 where
  Calls : Thread → HostCall → Waiting
  Asks : Activation → List ValType → Waiting

-- it goes on with the outcome of that function; a body is told of a trap or a refusal as of any reply, behind the border
-- of its call
abbrev pub back_to : Waiting → Outcome → Outcome
back_to (Calls t call) o = resumed (seen t) (taken_by call) o
back_to (Asks a types) o =
    pass_behind event.ReturningFromHost
    (by_run Over (reply_of types) (go_on exec a) (pass_behind event.ReturningFromWasm o))

-- and outwards from there, the innermost first
abbrev pub outwards : List Waiting → Outcome → Outcome
outwards [] o = o
outwards (p ∷ more) o = outwards more (back_to p o)

-- all that is due
abbrev pub means : Open → List Waiting → Doing
means at_work around w = outwards around (does at_work w)
