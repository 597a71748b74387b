-- A memory whose bytes were lent is as long as it was, so that the store stays well formed.
use Rattle.std.proofs.Common.{◌≡◌, ◌≤◌, ◌*◌, ◌/◌, ℕ, true, List, length, sym, subst, refl, arith}
use Rattle.std.specs.Prelude.{slice_get, Option, Some, None}
use Rattle.wasm_types.specs.Memories.{Memory, memory}
use Rattle.wasm_types.specs.MemoryTypes.{page_size, within_maximum}
use Rattle.spec_machine.specs.Growth.{memory_range}
use Rattle.spec_machine.specs.Machine.{Machine}
use Rattle.spec_machine.specs.WellFormed.{IsMemory, IsWellFormed}
use Rattle.law_store.proofs.Changes.{keeps_set_memory}
use Rattle.law_store.specs.Later.{IsLaterMemory}
use Rattle.store_state.proofs.LendingLemmas.{left_over_length}
use Rattle.store_state.specs.Lending.{memories_left, memory_left, set_left}

as_long : (x : Memory) (bytes : List ℕ) → length bytes ≡ length x.bytes → IsMemory x → IsMemory (memory x.ty bytes)
as_long x bytes same is = record {
  limits = is.limits;
  whole = subst (λ n. n ≡ n / page_size x.ty * page_size x.ty) (sym same) is.whole;
  least = subst (λ n. x.ty.minimum ≤ n / page_size x.ty) (sym same) is.least;
  most = subst (λ n. within_maximum (n / page_size x.ty) x.ty.maximum ≡ true) (sym same) is.most;
  in_range = subst (λ n. n ≤ memory_range x.ty) (sym same) is.in_range;
}

keeps_found : (m : Machine) → IsWellFormed m → (n : ℕ) (found : Option Memory) → slice_get m.memories n ≡ found →
    (left : List ℕ) → IsWellFormed (record m { memories = set_left m.memories n found left })
keeps_found m w n None e left = w
keeps_found m w n (Some x) e left =
    let same : length (memory_left x left).bytes ≡ length x.bytes = left_over_length x.bytes left in
    let later : IsLaterMemory x (memory_left x left) = record { ty = refl; size = omega (arith, same) } in
    keeps_set_memory m w n x (memory_left x left) e later
    (as_long x (memory_left x left).bytes same (w.memories_are n x e))

pub keeps_left : (m : Machine) → IsWellFormed m → (n : ℕ) (left : List ℕ) →
    IsWellFormed (record m { memories = memories_left m.memories n left })
keeps_left m w n left = keeps_found m w n (slice_get m.memories n) refl left
