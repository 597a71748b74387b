-- Globals.
use Rattle.wasm_types.specs.GlobalTypes.{GlobalParts}
use Rattle.wasm_objects.specs.declared.raw.RawVal.{RawVal}

-- a global: its type and its value
-- WebAssembly core specification, "Runtime structure, global instances"
pub record Global : Type 0 where
  pub ty : GlobalParts
  pub value : RawVal

abbrev pub global : GlobalParts → RawVal → Global
global ty value = record { ty = ty; value = value }
