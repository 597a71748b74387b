-- What a host does with memories: the calls of the wasmtime crate.
-- WebAssembly core specification, "Execution, modules, allocation, memories", "growing memories"
use Rattle.std.specs.Prelude.{ℕ, ◌*◌, List, [], ◌∷◌, length, slice_get, if◌then◌else◌, Result, Ok, Err}
use Rattle.std.specs.Option.{ok_or}
use Rattle.wasm_types.specs.Memories.{Memory, memory, new_memory}
use Rattle.wasm_types.specs.MemoryTypes.{MemoryParts, page_size}
use Rattle.wasm_types.specs.Ranges.{is_range, range_of, with_range}
use Rattle.wasm_values.specs.Handles.{memory_of, memory_store, memory_index}
use Rattle.wasm_values.specs.declared.handles.Memory.{Memory as Handle}
use Rattle.wasm_values.specs.declared.refusals.Refusal.{Refusal}
use Rattle.wasm_values.specs.declared.refusals.Refusal.TheVariants.{WrongStore, MemoryAccessError}
use Rattle.wasm_objects.specs.Growth.{longer_memory}
use Rattle.spec_machine.specs.Changes.{set_memory, append_memories}
use Rattle.spec_machine.specs.Growth.{Plan, plan, memory_range, memory_growing, pages}
use Rattle.spec_machine.specs.Machine.{Machine}
use Rattle.spec_machine.specs.Steps.{◌>>=◌, unless}
use Rattle.spec_machine.specs.Values.{is_id}

-- the memory of a handle, and the store in which it is another
abbrev pub memory_at : Machine → Handle → Result Memory Refusal
memory_at m h =
    if is_id (memory_store h) m.id then ok_or (slice_get m.memories (memory_index h)) WrongStore else Err WrongStore

abbrev pub with_memory : Machine → Handle → Memory → Machine
with_memory m h x = set_memory m (memory_index h) x

-- a new memory at the end of the store
abbrev pub memory_new : Machine → MemoryParts → Plan Handle
memory_new m ty =
    plan (memory_range ty) (memory_growing ty 0 ty.minimum)
    (append_memories m (new_memory ty ∷ [])) (memory_of m.id (length m.memories))

abbrev pub memory_ty : Machine → Handle → Result MemoryParts Refusal
memory_ty m h = do
  x ← memory_at m h
  Ok x.ty

-- the size in bytes, and in pages
abbrev pub memory_data_size : Machine → Handle → Result ℕ Refusal
memory_data_size m h = do
  x ← memory_at m h
  Ok (length x.bytes)

abbrev pub memory_size : Machine → Handle → Result ℕ Refusal
memory_size m h = do
  x ← memory_at m h
  Ok (pages x)

-- the bytes of a range; a range that passes the end is refused
abbrev pub memory_read : Machine → Handle → ℕ → ℕ → Result (List ℕ) Refusal
memory_read m h at len = do
  x ← memory_at m h
  _ ← unless MemoryAccessError (is_range at len x.bytes)
  Ok (range_of at len x.bytes)

-- the range of these bytes becomes them; a range that passes the end is refused
abbrev pub memory_write : Machine → Handle → ℕ → List ℕ → Result Machine Refusal
memory_write m h at bytes = do
  x ← memory_at m h
  _ ← unless MemoryAccessError (is_range at (length bytes) x.bytes)
  Ok (with_memory m h (memory x.ty (with_range at bytes x.bytes)))

-- so many more pages of zeros; the pages before are answered
abbrev pub memory_grow : Machine → Handle → ℕ → Result (Plan ℕ) Refusal
memory_grow m h delta = do
  x ← memory_at m h
  Ok (plan (memory_range x.ty) (memory_growing x.ty (pages x) delta)
      (with_memory m h (longer_memory x (delta * page_size x.ty))) (pages x))
