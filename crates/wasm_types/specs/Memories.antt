-- Memories.
use Rattle.std.specs.Prelude.{ℕ, ◌*◌, List, replicate}
use Rattle.wasm_types.specs.MemoryTypes.{MemoryParts, page_size}

-- a memory: its type and its bytes
-- WebAssembly core specification, "Runtime structure, memory instances"
pub record Memory : Type 0 where
  pub ty : MemoryParts
  pub bytes : List ℕ

abbrev pub memory : MemoryParts → List ℕ → Memory
memory ty bytes = record { ty = ty; bytes = bytes }

-- a new memory: its minimum of pages, all zero
-- WebAssembly core specification, "Modules, allocation, memories"
abbrev pub new_memory : MemoryParts → Memory
new_memory ty = memory ty (replicate (ty.minimum * page_size ty) 0)
