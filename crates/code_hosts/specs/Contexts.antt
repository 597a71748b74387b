-- The stores of a call, by what stays as it is during it. This project's own.
use Rattle.std.specs.Prelude.{◌≡◌}
use Rattle.spec_machine.specs.Machine.{Machine}
use Rattle.spec_execution.specs.Activations.{Activation, view}
use Rattle.spec_execution.specs.Askings.{Question, Stepping}
use Rattle.spec_execution.specs.declared.answer.Event.{Event}
use Rattle.store_state.specs.Engines.{engine_parts}
use Rattle.store_state.specs.Machine.{run_machine}
use Rattle.store_state.specs.Parts.{HeldParts}
use Rattle.code_leaps.specs.Leading.{Setting}
use Rattle.code_run.specs.Asking.{Moving}
use Rattle.code_hosts.specs.Asked.{Moves}
use Rattle.code_hosts.specs.Conditions.{IsFormed}
use Rattle.code_hosts.specs.Hosting.{AreRulesOf, opened}
use Rattle.code_hosts.specs.declared.context.RunContext.{RunContext}

-- they are these; and how what is outside goes on
abbrev pub opened_in : RunContext → Setting HeldParts
opened_in c = opened c.program.now c.bounds c.id (engine_parts c.engine.now)

abbrev pub moves_in : {W : Type 0} → RunContext → Moving W → Moving W
moves_in c moves = Moves c.bounds moves

-- the rest of a store has the id and the engine that steps see
pub record IsSeenIn (c : RunContext) (base : Machine) : Type 0 where
  pub id_is : base.id ≡ c.id
  pub engine_is : base.engine ≡ engine_parts c.engine.now

-- the question that the next step of a body is, which sees a store with this held
abbrev pub stepping_in : RunContext → Machine → HeldParts → Activation → Event → Question
stepping_in c base held a event = Stepping a.body a.state event (view (run_machine base c.program.now held) a)

-- the call's rules are those of the engine
abbrev pub HasRules : RunContext → Type 0
HasRules c = AreRulesOf (engine_parts c.engine.now) c.bounds.rules

-- each store of the call is well formed with this held
abbrev pub IsFormedIn : RunContext → HeldParts → Type 0
IsFormedIn c held = IsFormed c.program.now c.bounds c.id (engine_parts c.engine.now) held

-- each is the same with what is held then
abbrev pub KeepsStores : Setting HeldParts → HeldParts → HeldParts → Type 0
KeepsStores g old new = (base : Machine) → g.is_base base → g.put base new ≡ g.put base old
