-- Objects as contracts see them, and how a proof tells them apart. This project's own.
use Rattle.std.specs.Prelude.{ℕ, List, Bool, map, refl}
use Rattle.std.specs.Coded.{Coded, code_by, coded×, coded_ℕ, coded_bool, coded_list}
use Rattle.wasm_types.specs.TableTypes.{TableParts, table_code}
use Rattle.wasm_types.specs.GlobalTypes.{GlobalParts, global_code}
use Rattle.wasm_types.specs.Memories.{Memory}
use Rattle.wasm_objects.specs.Tables.{Table, table}
use Rattle.wasm_objects.specs.Globals.{Global, global}
use Rattle.wasm_objects.specs.Growth.{MemoryObjectParts, TableObjectParts}
use Rattle.wasm_objects.specs.declared.raw.RawRef.{RawRef}
use Rattle.wasm_objects.specs.declared.raw.RawVal.{RawVal}
use Rattle.wasm_objects.specs.contracts.raw.RawRef as raw_ref
use Rattle.wasm_objects.specs.contracts.raw.RawVal as raw_val

abbrev pub memory_object_parts : Memory → ℕ → MemoryObjectParts
memory_object_parts memory spare = record { memory = memory; spare = spare }

-- the memories of a store's objects
abbrev pub memories_of : List MemoryObjectParts → List Memory
memories_of = map (λ h. h.memory)

abbrev pub table_object_parts : Table → ℕ → List Bool → ℕ → TableObjectParts
table_object_parts table spare unfilled filled =
    record { table = table; spare = spare; unfilled = unfilled; filled = filled }

-- the tables of a store's objects
abbrev pub tables_of : List TableObjectParts → List Table
tables_of = map (λ h. h.table)

-- a held table is stored as its parts
abbrev pub table_object_code : Coded TableObjectParts
table_object_code =
    code_by ((TableParts × (List RawRef × ℕ)) × (List Bool × ℕ))
    (coded× (coded× table_code (coded× (coded_list raw_ref.the_row.coded) coded_ℕ)) (coded× (coded_list coded_bool) coded_ℕ))
    (λ h. ((h.table.ty, (h.table.elements, h.spare)), (h.unfilled, h.filled)))
    (λ p. table_object_parts (table p.0.0 p.0.1.0) p.0.1.1 p.1.0 p.1.1) (λ _. refl)

-- a global is stored as its parts
abbrev pub object_global_code : Coded Global
object_global_code =
    code_by (GlobalParts × RawVal) (coded× global_code raw_val.the_row.coded) (λ g. (g.ty, g.value))
    (λ p. global p.0 p.1) (λ _. refl)
