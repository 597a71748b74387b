-- What is tested of a memory or a table, and what it becomes, by bytes and elements. This project's own; the rules
-- are those of the WebAssembly core specification, "Execution, memory instructions" and "table instructions".
use Rattle.std.specs.Prelude.{ℕ, Bool, ◌&&◌, List, length, set, nat_lt}
use Rattle.wasm_types.specs.Memories.{Memory, memory}
use Rattle.wasm_types.specs.Ranges.{is_range, range_of, with_range}
use Rattle.wasm_objects.specs.Tables.{Table, table}
use Rattle.wasm_objects.specs.declared.raw.RawRef.{RawRef}

-- bytes that are written at a place of a memory
abbrev pub takes_bytes : ℕ → List ℕ → Memory → Bool
takes_bytes at piece x = is_range at (length piece) x.bytes

abbrev pub with_bytes : ℕ → List ℕ → Memory → Memory
with_bytes at piece x = memory x.ty (with_range at piece x.bytes)

-- a range of bytes that is copied to a place of a memory
abbrev pub takes_copy : ℕ → ℕ → ℕ → List ℕ → Memory → Bool
takes_copy at from len source x = is_range at len x.bytes && is_range from len source

abbrev pub with_copy : ℕ → ℕ → ℕ → List ℕ → Memory → Memory
with_copy at from len source x = memory x.ty (with_range at (range_of from len source) x.bytes)

-- an element at a place of a table
abbrev pub takes_element : ℕ → Table → Bool
takes_element at x = nat_lt at (length x.elements)

abbrev pub with_element : ℕ → RawRef → Table → Table
with_element at r x = table x.ty (set x.elements at r)

-- elements at a place of a table
abbrev pub takes_elements : ℕ → List RawRef → Table → Bool
takes_elements at piece x = is_range at (length piece) x.elements

abbrev pub with_elements : ℕ → List RawRef → Table → Table
with_elements at piece x = table x.ty (with_range at piece x.elements)

-- a range of elements that is copied to a place of a table
abbrev pub takes_references : ℕ → ℕ → ℕ → List RawRef → Table → Bool
takes_references at from len source x = is_range at len x.elements && is_range from len source

abbrev pub with_references : ℕ → ℕ → ℕ → List RawRef → Table → Table
with_references at from len source x = table x.ty (with_range at (range_of from len source) x.elements)

-- the same of an object of either kind, by how its items are read and replaced
abbrev pub takes_piece : {A V : Type 0} → (V → List A) → ℕ → List A → V → Bool
takes_piece items at piece x = is_range at (length piece) (items x)

abbrev pub with_piece : {A V : Type 0} → (V → List A) → (V → List A → V) → ℕ → List A → V → V
with_piece items replaced at piece x = replaced x (with_range at piece (items x))

abbrev pub takes_part : {A V : Type 0} → (V → List A) → ℕ → ℕ → ℕ → List A → V → Bool
takes_part items at from len source x = is_range at len (items x) && is_range from len source

abbrev pub with_part : {A V : Type 0} → (V → List A) → (V → List A → V) → ℕ → ℕ → ℕ → List A → V → V
with_part items replaced at from len source x = replaced x (with_range at (range_of from len source) (items x))
