-- Bytes of a memory that are lent to be written. This project's own.
use Rattle.std.specs.Prelude.{ℕ, List, set, slice_get, Option, Some, None}
use Rattle.std.specs.Borrow.{Lends, MutBor, Fml, u8, usize, Array}
use Rattle.wasm_types.specs.Memories.{Memory, memory}
use Rattle.wasm_objects.specs.Growth.{MemoryObjectParts}
use Rattle.wasm_objects.specs.Lending.{left_over}
use Rattle.wasm_objects.specs.contracts.memory.MemoryObject as object
use Rattle.wasm_objects.specs.contracts.segments.DataSegment as segment
use Rattle.store_state.specs.contracts.memories.SeenMemory as seen
use Rattle.store_state.specs.contracts.object_list.ObjectList.{the_row}
use Rattle.store_state.specs.declared.object_list.StoredObject.{Ghosts}

abbrev pub bytes_of : Memory → List ℕ
bytes_of m = m.bytes

-- a memory whose bytes were lent, once the loan ends
abbrev pub memory_left : Memory → List ℕ → Memory
memory_left m left = memory m.ty (left_over m.bytes left)

abbrev pub set_left : List Memory → ℕ → Option Memory → List ℕ → List Memory
set_left ms n None left = ms
set_left ms n (Some m) left = set ms n (memory_left m left)

-- the memories, once the loan of the bytes of one of them ends
abbrev pub memories_left : List Memory → ℕ → List ℕ → List Memory
memories_left ms n left = set_left ms n (slice_get ms n) left

abbrev pub LendsBytesOf : Ghosts MemoryObjectParts Memory ℕ (List ℕ) ℕ → MutBor (List Memory) → ℕ →
    MutBor (List ℕ) → Fml
LendsBytesOf ghosts lender n lent =
    Lends (the_row object.the_row seen.the_row u8 segment.the_row usize ghosts) (Array u8 0) lender lent
    (memories_left lender.now n)
