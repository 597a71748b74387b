-- Growth of an object of which the room was made before.
use Rattle.std.specs.Prelude.{ℕ, List, Bool, ◌++◌, replicate}
use Rattle.wasm_types.specs.Memories.{Memory, memory}
use Rattle.wasm_objects.specs.Tables.{Table, table}
use Rattle.wasm_objects.specs.declared.raw.RawRef.{RawRef}

-- a memory with more bytes at its end, all zero
-- WebAssembly core specification, "Modules, growing memories"
abbrev pub longer_memory : Memory → ℕ → Memory
longer_memory m extra = memory m.ty (m.bytes ++ replicate extra 0)

-- a table with more elements at its end, all of them one reference
-- WebAssembly core specification, "Modules, growing tables"
abbrev pub longer_table : Table → ℕ → RawRef → Table
longer_table t extra value = table t.ty (t.elements ++ replicate extra value)

-- a memory object: the memory, and for how many more bytes there is room; this project's own
pub record MemoryObjectParts : Type 0 where
  pub memory : Memory
  pub spare : ℕ

-- a table object: the table; for how many more elements there is room; which places no look-up and no write has filled;
-- and how many of them look-ups filled; this project's own
pub record TableObjectParts : Type 0 where
  pub table : Table
  pub spare : ℕ
  pub unfilled : List Bool
  pub filled : ℕ
