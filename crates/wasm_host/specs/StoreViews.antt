-- The store of which a step of a host function's body sees a part. This project's own.
use Rattle.std.specs.Prelude.{◌≡◌}
use Rattle.spec_machine.specs.Machine.{Machine, new_machine}
use Rattle.store_state.specs.Engines.{engine_parts}
use Rattle.store_state.specs.Machine.{run_machine}
use Rattle.wasm_host.specs.declared.store_view.StoreView.{StoreView}

-- a store of these, which asks nobody: no step sees whom it asks
abbrev pub store_of : StoreView → Machine
store_of v = run_machine (new_machine v.id (engine_parts v.engine.now)) v.program.now v.held.now

-- the rest of a store has the id and the engine that are seen
pub record IsSeen (v : StoreView) (base : Machine) : Type 0 where
  pub id_is : base.id ≡ v.id
  pub engine_is : base.engine ≡ engine_parts v.engine.now
