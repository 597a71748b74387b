-- What the calls on memories keep.
use Rattle.std.proofs.Common.{◌≡◌, ◌⊎◌, ℕ, ◌+◌, ◌*◌, ◌/◌, ◌≤◌, ◌<◌, true, List, [], ◌∷◌, ◌++◌, length, take, drop, replicate, slice_get, Option, Some, None, Ok, refl, sym, ap, ◌∙◌, subst, inl, inr, arith, length-append, mul-div_cancel, le_of_mul-le-mul_right, add-mul, le_refl, zero-add, zero-mul, zero-le}
use Rattle.std.specs.Prelude.{option_map}
use Rattle.std.proofs.lemmas.Bool.{leb-true, le-leb}
use Rattle.std.proofs.lemmas.List.{length-take, length-drop, length-replicate}
use Rattle.std.proofs.lemmas.Nat.{pow_pos}
use Rattle.wasm_types.specs.EqualityLaws.{both}
use Rattle.wasm_types.specs.Memories.{Memory, memory, new_memory}
use Rattle.wasm_types.specs.MemoryTypes.{MemoryParts, are_memory_limits, page_size, within_maximum}
use Rattle.wasm_types.specs.Ranges.{is_range, with_range}
use Rattle.wasm_values.specs.Handles.{memory_store, memory_index}
use Rattle.wasm_values.specs.declared.handles.Memory.{Memory as Handle}
use Rattle.wasm_values.specs.declared.refusals.Refusal.TheVariants.{WrongStore, MemoryAccessError}
use Rattle.wasm_objects.specs.Growth.{longer_memory}
use Rattle.spec_machine.specs.Growth.{Plan, plan, memory_range, memory_growing, pages}
use Rattle.spec_machine.specs.Machine.{Machine}
use Rattle.spec_machine.specs.MemoryCalls.{with_memory, memory_new, memory_write, memory_grow}
use Rattle.spec_machine.specs.Values.{is_id}
use Rattle.spec_machine.specs.WellFormed.{IsMemory, IsWellFormed}
use Rattle.law_store.specs.Granted.{IsGranted}
use Rattle.law_store.specs.Later.{IsLaterMemory, Extends}
use Rattle.law_store.proofs.Changes.{extends_set_memory, extends_append_memories, keeps_set_memory, keeps_append_memories}
use Rattle.law_store.proofs.GrowthLemmas.{MayGrow, may_grow}
use Rattle.law_store.proofs.Lists.{each_one}
use Rattle.law_store.proofs.RefusalLemmas.{Passed, passed}

-- a list in which a range is another is as long
pub length_with_range : {A : Type 0} (at : ℕ) (piece xs : List A) → is_range at (length piece) xs ≡ true →
    length (with_range at piece xs) ≡ length xs
length_with_range at piece xs h =
    let fits : at + length piece ≤ length xs = leb-true _ _ h in
    length-append (take at xs ++ piece) (drop (at + length piece) xs)
    ∙ ap (λ n. n + length (drop (at + length piece) xs)) (length-append (take at xs) piece)
    ∙ omega (arith, fits, length-take at xs, length-drop (at + length piece) xs)

-- so many pages
is_memory : (ty : MemoryParts) (bytes : List ℕ) (n : ℕ) → length bytes ≡ n * page_size ty →
    are_memory_limits ty ≡ true → ty.minimum ≤ n → within_maximum n ty.maximum ≡ true →
    n * page_size ty ≤ memory_range ty → IsMemory (memory ty bytes)
is_memory ty bytes n size limits least most fits =
    let is : pages (memory ty bytes) ≡ n = ap (λ k. k / page_size ty) size
    ∙ mul-div_cancel n (pow_pos ty.page_size_log2) in
    record {
      limits = limits;
      whole = size ∙ ap (λ k. k * page_size ty) (sym is);
      least = subst (λ k. ty.minimum ≤ k) (sym is) least;
      most = ap (λ k. within_maximum k ty.maximum) is ∙ most;
      in_range = subst (λ k. k ≤ memory_range ty) (sym size) fits;
    }

-- a maximum in bytes and in pages
within_pages : (most : Option ℕ) (n size : ℕ) → 0 < size →
    within_maximum (n * size) (option_map (λ k. k * size) most) ≡ true → within_maximum n most ≡ true
within_pages None n size p h = refl
within_pages (Some most) n size p h = le-leb n most (le_of_mul-le-mul_right (leb-true (n * size) (most * size) h) p)

-- so many pages more by this size: none, or within the range and the maximum
abbrev Room : (n delta size range : ℕ) → Option ℕ → Type 0
Room n delta size range most =
    (n * size ≡ (n + delta) * size) ⊎
    (((n + delta) * size ≤ range) × (within_maximum ((n + delta) * size) (option_map (λ k. k * size) most) ≡ true))

room_fits : (n delta size range : ℕ) (most : Option ℕ) → n * size ≤ range → Room n delta size range most →
    (n + delta) * size ≤ range
room_fits n delta size range most old (inl e) = subst (λ k. k ≤ range) e old
room_fits n delta size range most old (inr e) = e.0

room_most : (n delta size range : ℕ) (most : Option ℕ) → 0 < size → within_maximum n most ≡ true →
    Room n delta size range most → within_maximum (n + delta) most ≡ true
room_most n delta size range most p old (inl e) =
    let none : n + delta ≤ n = le_of_mul-le-mul_right (subst (λ k. k ≤ n * size) e (le_refl (n * size))) p in
    let same : n ≡ n + delta = omega (arith, none) in
    subst (λ k. within_maximum k most ≡ true) same old
room_most n delta size range most p old (inr e) = within_pages most (n + delta) size p e.1

-- what a writing has tested and done
abbrev pub MemoryWrite : Machine → Handle → ℕ → List ℕ → Machine → Type 0
MemoryWrite m h at bytes after =
    Passed (is_id (memory_store h) m.id) (slice_get m.memories (memory_index h))
    (λ (x : Memory). is_range at (length bytes) x.bytes) (λ x. true) (λ x. true)
    (λ x. with_memory m h (memory x.ty (with_range at bytes x.bytes))) after

pub memory_write_passed : (m after : Machine) (h : Handle) (at : ℕ) (bytes : List ℕ) →
    memory_write m h at bytes ≡ Ok after → MemoryWrite m h at bytes after
memory_write_passed m after h at bytes e =
    passed after WrongStore MemoryAccessError WrongStore WrongStore (is_id (memory_store h) m.id)
    (slice_get m.memories (memory_index h))
    (λ x. is_range at (length bytes) x.bytes) (λ x. true) (λ x. true)
    (λ x. with_memory m h (memory x.ty (with_range at bytes x.bytes))) e

later_written : (x : Memory) (at : ℕ) (bytes : List ℕ) → is_range at (length bytes) x.bytes ≡ true →
    IsLaterMemory x (memory x.ty (with_range at bytes x.bytes))
later_written x at bytes h = record { ty = refl; size = omega (arith, length_with_range at bytes x.bytes h) }

pub extends_memory_write : (m after : Machine) (h : Handle) (at : ℕ) (bytes : List ℕ) →
    memory_write m h at bytes ≡ Ok after → Extends m after
extends_memory_write m after h at bytes e =
    let p : MemoryWrite m h at bytes after = memory_write_passed m after h at bytes e in
    let y : Memory = memory p.object.ty (with_range at bytes p.object.bytes) in
    subst (Extends m) p.is
    (extends_set_memory m (memory_index h) p.object y p.found (later_written p.object at bytes p.one))

pub keeps_memory_write : (m after : Machine) (h : Handle) (at : ℕ) (bytes : List ℕ) → IsWellFormed m →
    memory_write m h at bytes ≡ Ok after → IsWellFormed after
keeps_memory_write m after h at bytes w e =
    let p : MemoryWrite m h at bytes after = memory_write_passed m after h at bytes e in
    let y : Memory = memory p.object.ty (with_range at bytes p.object.bytes) in
    let was : IsMemory p.object = w.memories_are (memory_index h) p.object p.found in
    let now : IsMemory y =
    is_memory p.object.ty y.bytes (pages p.object) (length_with_range at bytes p.object.bytes p.one
    ∙ was.whole) was.limits was.least was.most (subst (λ n. n ≤ memory_range p.object.ty) was.whole was.in_range) in
    subst IsWellFormed p.is
    (keeps_set_memory m w (memory_index h) p.object y p.found (later_written p.object at bytes p.one) now)

-- a new memory
pub extends_memory_new : (m : Machine) (ty : MemoryParts) → Extends m (memory_new m ty).after
extends_memory_new m ty = extends_append_memories m (new_memory ty ∷ [])

pub keeps_memory_new : (m : Machine) (ty : MemoryParts) → IsWellFormed m → are_memory_limits ty ≡ true →
    IsGranted m (memory_new m ty) → IsWellFormed (memory_new m ty).after
keeps_memory_new m ty w limits g =
    let size : length (new_memory ty).bytes ≡ (0 + ty.minimum) * page_size ty =
    length-replicate (ty.minimum * page_size ty) 0 ∙ ap (λ n. n * page_size ty) (sym (zero-add ty.minimum)) in
    let none : 0 * page_size ty ≤ memory_range ty =
    subst (λ n. n ≤ memory_range ty) (sym (zero-mul (page_size ty))) zero-le in
    let now : IsMemory (new_memory ty) =
    is_memory ty (new_memory ty).bytes (0 + ty.minimum) size limits (omega arith)
    (subst (λ n. within_maximum n ty.maximum ≡ true) (sym (zero-add ty.minimum)) (both _ _ limits).0)
    (room_fits 0 ty.minimum (page_size ty) (memory_range ty) ty.maximum none (may_grow m (memory_new m ty) g)) in
    keeps_append_memories m w (new_memory ty ∷ []) (each_one IsMemory (new_memory ty) now)

-- what a growing has tested and plans
abbrev pub MemoryGrow : Machine → Handle → ℕ → Plan ℕ → Type 0
MemoryGrow m h delta p =
    Passed (is_id (memory_store h) m.id) (slice_get m.memories (memory_index h)) (λ (x : Memory). true) (λ x. true)
    (λ x. true)
    (λ x. plan (memory_range x.ty) (memory_growing x.ty (pages x) delta)
    (with_memory m h (longer_memory x (delta * page_size x.ty))) (pages x)) p

pub memory_grow_passed : (m : Machine) (h : Handle) (delta : ℕ) (p : Plan ℕ) → memory_grow m h delta ≡ Ok p →
    MemoryGrow m h delta p
memory_grow_passed m h delta p e =
    passed p WrongStore WrongStore WrongStore WrongStore (is_id (memory_store h) m.id)
    (slice_get m.memories (memory_index h))
    (λ x. true) (λ x. true) (λ x. true)
    (λ x. plan (memory_range x.ty) (memory_growing x.ty (pages x) delta)
    (with_memory m h (longer_memory x (delta * page_size x.ty))) (pages x)) e

later_grown : (x : Memory) (extra : ℕ) → IsLaterMemory x (longer_memory x extra)
later_grown x extra = record { ty = refl; size = omega (arith, length-append x.bytes (replicate extra 0)) }

pub extends_memory_grow : (m : Machine) (h : Handle) (delta : ℕ) (p : Plan ℕ) → memory_grow m h delta ≡ Ok p →
    Extends m p.after
extends_memory_grow m h delta p e =
    let q : MemoryGrow m h delta p = memory_grow_passed m h delta p e in
    let y : Memory = longer_memory q.object (delta * page_size q.object.ty) in
    subst (λ (r : Plan ℕ). Extends m r.after) q.is
    (extends_set_memory m (memory_index h) q.object y q.found
    (later_grown q.object (delta * page_size q.object.ty)))

pub longer_size : (x : Memory) (delta : ℕ) → IsMemory x →
    length (x.bytes ++ replicate (delta * page_size x.ty) 0) ≡ (pages x + delta) * page_size x.ty
longer_size x delta h =
    length-append x.bytes (replicate (delta * page_size x.ty) 0)
    ∙ ap (λ n. length x.bytes + n) (length-replicate (delta * page_size x.ty) 0)
    ∙ ap (λ n. n + delta * page_size x.ty) h.whole
    ∙ sym (add-mul (pages x) delta (page_size x.ty))

-- a memory that may have more pages is well formed with them
grown_is : (x : Memory) (delta : ℕ) → IsMemory x →
    Room (pages x) delta (page_size x.ty) (memory_range x.ty) x.ty.maximum →
    IsMemory (longer_memory x (delta * page_size x.ty))
grown_is x delta h may =
    is_memory x.ty (x.bytes ++ replicate (delta * page_size x.ty) 0) (pages x + delta)
    (longer_size x delta h) h.limits (omega (arith, h.least))
    (room_most (pages x) delta (page_size x.ty) (memory_range x.ty) x.ty.maximum
    (pow_pos x.ty.page_size_log2) h.most may)
    (room_fits (pages x) delta (page_size x.ty) (memory_range x.ty) x.ty.maximum
    (subst (λ n. n ≤ memory_range x.ty) h.whole h.in_range) may)

pub keeps_memory_grow : (m : Machine) (h : Handle) (delta : ℕ) (p : Plan ℕ) → IsWellFormed m →
    memory_grow m h delta ≡ Ok p → IsGranted m p → IsWellFormed p.after
keeps_memory_grow m h delta p w e g =
    let q : MemoryGrow m h delta p = memory_grow_passed m h delta p e in
    let x : Memory = q.object in
    let y : Memory = longer_memory x (delta * page_size x.ty) in
    let may : MayGrow (plan (memory_range x.ty) (memory_growing x.ty (pages x) delta) (with_memory m h y) (pages x)) =
    subst MayGrow (sym q.is) (may_grow m p g) in
    subst (λ (r : Plan ℕ). IsWellFormed r.after) q.is
    (keeps_set_memory m w (memory_index h) x y q.found (later_grown x (delta * page_size x.ty))
    (grown_is x delta (w.memories_are (memory_index h) x q.found) may))
