-- What contracts see of a store's objects.
use Rattle.std.specs.Prelude.{◌≡◌}
use Rattle.wasm_values.specs.declared.store_id.StoreId.{StoreId}
use Rattle.spec_machine.specs.Machine.{Machine, EngineParts, new_machine}
use Rattle.store_state.specs.Engines.{engine_parts}
use Rattle.store_state.specs.Machine.{run_machine}
use Rattle.store_state.specs.Parts.{ProgramParts, HeldParts}
use Rattle.store_state.specs.declared.engine.Engine.{Engine}
use Rattle.store_state.specs.declared.flags.Flags.{Flags}

-- what a store has beside its objects: its id and its engine, and whether a limiter, a hook and a deadline behaviour
-- are asked
abbrev pub base_of : StoreId → EngineParts → Flags → Machine
base_of id engine flags = record (new_machine id engine) {
  is_limited = flags.limited;
  is_hooked = flags.hooked;
  is_behaving = flags.behaving;
}

-- the machine of these
abbrev pub machine_of : StoreId → EngineParts → Flags → ProgramParts → HeldParts → Machine
machine_of id engine flags program held = run_machine (base_of id engine flags) program held

-- the machine of a store's parts
abbrev pub store_of : StoreId → Engine → Flags → ProgramParts → HeldParts → Machine
store_of id engine flags program held = machine_of id (engine_parts engine) flags program held

-- a store of the same id, engine and flags, which has no objects
abbrev pub emptied : Machine → Machine
emptied m = record (new_machine m.id m.engine) {
  is_limited = m.is_limited;
  is_hooked = m.is_hooked;
  is_behaving = m.is_behaving;
}

-- a hook and a deadline behaviour are asked just where another store asks them
abbrev pub AsksAlike : Machine → Machine → Type 0
AsksAlike m after = (after.is_hooked ≡ m.is_hooked) × (after.is_behaving ≡ m.is_behaving)
