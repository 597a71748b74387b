-- Objects that are lent out of a list of them. This project's own.
use Rattle.wasm_types.specs.Memories.{Memory}
use Rattle.wasm_objects.specs.Growth.{MemoryObjectParts, TableObjectParts}
use Rattle.wasm_objects.specs.Tables.{Table}
use Rattle.store_state.specs.Parts.{Names}
use Rattle.std.specs.Borrow.{Bor}
use Rattle.std.specs.Prelude.{ℕ, List, Option, slice_get}
use Rattle.wasm_objects.specs.declared.raw.RawRef.{RawRef}

abbrev pub memory_behind : Bor MemoryObjectParts → Memory
memory_behind r = r.now.memory

abbrev pub table_behind : Bor TableObjectParts → Table
table_behind r = r.now.table

abbrev pub names_behind : Bor Names → Names
names_behind r = r.now

abbrev pub items_behind : Bor (List RawRef) → List RawRef
items_behind r = r.now

abbrev pub bytes_behind : Bor (List ℕ) → List ℕ
bytes_behind r = r.now

-- what contracts see of an object that is lent
abbrev pub behind : {H V : Type 0} → (H → V) → Bor H → V
behind seen r = seen r.now

-- the element at a place of a table, where it has one
abbrev pub element_at : ℕ → Table → Option RawRef
element_at at t = slice_get t.elements at
