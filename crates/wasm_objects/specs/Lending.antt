-- Bytes that are lent to be written. This project's own.
use Rattle.std.specs.Prelude.{ℕ, List, ◌++◌, length, take, drop}
use Rattle.std.specs.Borrow.{Lends, MutBor, Fml, u8, Array}
use Rattle.wasm_types.specs.Memories.{memory}
use Rattle.wasm_objects.specs.Growth.{MemoryObjectParts}
use Rattle.wasm_objects.specs.Objects.{memory_object_parts}
use Rattle.wasm_objects.specs.contracts.memory.MemoryObject.{the_row}

-- the list with what was left over it: as many items as it has, as a borrower always leaves
abbrev pub left_over : List ℕ → List ℕ → List ℕ
left_over items left = take (length items) (left ++ drop (length left) items)

-- a memory whose bytes were lent, once the loan ends
abbrev pub with_left : MemoryObjectParts → List ℕ → MemoryObjectParts
with_left lender left = memory_object_parts (memory lender.memory.ty (left_over lender.memory.bytes left)) lender.spare

abbrev pub LendsBytes : MutBor MemoryObjectParts → MutBor (List ℕ) → Fml
LendsBytes lender lent = Lends the_row (Array u8 0) lender lent (with_left lender.now)
