-- A store without objects is well formed.
use Rattle.std.proofs.Common.{◌≡◌, true, arith}
use Rattle.std.proofs.lemmas.Option.{none-some}
use Rattle.wasm_values.specs.declared.store_id.StoreId.{StoreId}
use Rattle.spec_machine.specs.Machine.{EngineParts, are_engine_limits, new_machine}
use Rattle.spec_machine.specs.WellFormed.{IsMemory, IsTable, IsGlobal, IsType, IsFunction, IsWellFormed}
use Rattle.law_store.proofs.Lists.{each_none}

pub new_machine_well_formed : (id : StoreId) (engine : EngineParts) →
    are_engine_limits engine.frames engine.turns ≡ true → IsWellFormed (new_machine id engine)
new_machine_well_formed id engine limits = record {
  memories_are = each_none IsMemory;
  tables_are = each_none (IsTable (new_machine id engine));
  globals_are = each_none (IsGlobal (new_machine id engine));
  tags_are = each_none (IsType (new_machine id engine));
  functions_are = each_none (IsFunction (new_machine id engine));
  instances_are = λ n i e. absurd (none-some i e);
  deadline_is = omega arith;
  engine_is = limits;
  debt_is = omega arith;
}
