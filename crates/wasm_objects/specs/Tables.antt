-- Tables.
use Rattle.std.specs.Prelude.{List, replicate}
use Rattle.wasm_types.specs.TableTypes.{TableParts}
use Rattle.wasm_objects.specs.declared.raw.RawRef.{RawRef}

-- a table: its type and its elements
-- WebAssembly core specification, "Runtime structure, table instances"
pub record Table : Type 0 where
  pub ty : TableParts
  pub elements : List RawRef

abbrev pub table : TableParts → List RawRef → Table
table ty elements = record { ty = ty; elements = elements }

-- a new table: its minimum of elements, all of them one reference
-- WebAssembly core specification, "Modules, allocation, tables"
abbrev pub new_table : TableParts → RawRef → Table
new_table ty init = table ty (replicate ty.minimum init)
