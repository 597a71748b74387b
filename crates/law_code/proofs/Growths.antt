-- A memory or a table that code grows leaves a well-formed store, where the growth is granted.
use Rattle.std.proofs.Common.{◌≡◌, ℕ, ◌+◌, ◌*◌, ◌≤◌, Bool, true, length, replicate, slice_get, Some, Result, Ok, Err, ok_or, if◌then◌else◌, refl, sym, ap, ◌∙◌, subst, inl, inr, arith}
use Rattle.wasm_types.specs.Memories.{Memory}
use Rattle.wasm_types.specs.MemoryTypes.{page_size, within_maximum}
use Rattle.wasm_values.specs.Handles.{memory_of}
use Rattle.wasm_values.specs.declared.refusals.Refusal.{Refusal}
use Rattle.wasm_values.specs.declared.refusals.Refusal.TheVariants.{WrongStore}
use Rattle.wasm_objects.specs.Growth.{longer_memory, longer_table}
use Rattle.wasm_objects.specs.Tables.{Table}
use Rattle.wasm_objects.specs.declared.raw.RawRef.{RawRef}
use Rattle.spec_machine.specs.Changes.{set_memory, set_table}
use Rattle.spec_machine.specs.Growth.{Plan, plan, memory_range, table_range, memory_growing, table_growing, pages}
use Rattle.spec_machine.specs.Machine.{Machine}
use Rattle.spec_machine.specs.MemoryCalls.{memory_grow}
use Rattle.spec_machine.specs.Steps.{◌>>=◌}
use Rattle.spec_machine.specs.Values.{raw_ref_fits}
use Rattle.spec_machine.specs.WellFormed.{is_raw_ref, IsTable, IsWellFormed}
use Rattle.law_store.specs.Granted.{IsGranted}
use Rattle.law_store.proofs.GrowthLemmas.{MayGrow, may_grow}
use Rattle.law_store.proofs.Lists.{each_append}
use Rattle.law_store.proofs.Memories.{extends_memory_grow, keeps_memory_grow}
use Rattle.law_store.proofs.Places.{id_own}
use Rattle.law_store.proofs.Tables.{longer_length}
use Rattle.law_code.proofs.Changes.{IsSafeChange, AreRefs, set_table_safe, copies_are}

module _ (m : Machine) (s : IsWellFormed m) (n : ℕ) where
  abbrev pub memory_plan : Memory → ℕ → Plan ℕ
  memory_plan x delta =
      plan (memory_range x.ty) (memory_growing x.ty (pages x) delta)
      (set_memory m n (longer_memory x (delta * page_size x.ty))) (pages x)

  abbrev pub table_plan : Table → ℕ → RawRef → Plan ℕ
  table_plan x delta y =
      plan table_range (table_growing x.ty (length x.elements) delta)
      (set_table m n (longer_table x delta y)) (length x.elements)

  abbrev planned : ℕ → Result Memory Refusal → Result (Plan ℕ) Refusal
  planned delta r = r >>= (λ x. Ok (memory_plan x delta))

  -- the same growth by a host, through a handle
  by_handle : (x : Memory) (delta : ℕ) → slice_get m.memories n ≡ Some x →
      memory_grow m (memory_of m.id n) delta ≡ Ok (memory_plan x delta)
  by_handle x delta found =
      ap (λ (b : Bool). planned delta (if b then ok_or (slice_get m.memories n) WrongStore else Err WrongStore))
      (id_own m.id)
      ∙ ap (λ o. planned delta (ok_or o WrongStore)) found

  pub memory_grown : (x : Memory) (delta : ℕ) → slice_get m.memories n ≡ Some x → IsGranted m (memory_plan x delta) →
      IsSafeChange m (memory_plan x delta).after
  memory_grown x delta found g = record {
    well = keeps_memory_grow m (memory_of m.id n) delta (memory_plan x delta) s (by_handle x delta found) g;
    later = extends_memory_grow m (memory_of m.id n) delta (memory_plan x delta) (by_handle x delta found);
    owed = omega arith;
  }

  -- a table that may be so much longer
  most_by : (x : Table) (delta : ℕ) (y : RawRef) → MayGrow (table_plan x delta y) →
      (length x.elements ≤ table_range) → within_maximum (length x.elements) x.ty.maximum ≡ true →
      (length x.elements + delta ≤ table_range) × (within_maximum (length x.elements + delta) x.ty.maximum ≡ true)
  most_by x delta y (inl e) fits most =
      (subst (λ k. k ≤ table_range) e fits, subst (λ k. within_maximum k x.ty.maximum ≡ true) e most)
  most_by x delta y (inr e) fits most = e

  pub table_grown : (x : Table) (delta : ℕ) (y : RawRef) → slice_get m.tables n ≡ Some x → is_raw_ref m y ≡ true →
      raw_ref_fits m y x.ty.element ≡ true → IsGranted m (table_plan x delta y) →
      IsSafeChange m (table_plan x delta y).after
  table_grown x delta y found p q g =
      let was : IsTable m x = s.tables_are n x found in
      let size : length x.elements + delta ≡ length (longer_table x delta y).elements = sym (longer_length x delta y) in
      let room : (length x.elements + delta ≤ table_range) ×
      (within_maximum (length x.elements + delta) x.ty.maximum ≡ true) =
      most_by x delta y (may_grow m (table_plan x delta y) g) was.in_range was.most in
      let more : AreRefs m x.ty.element (replicate delta y) = copies_are m s x.ty.element delta y p q in
      let now : IsTable m (longer_table x delta y) = record {
        limits = was.limits;
        of_engine = was.of_engine;
        sound = was.sound;
        least = omega (arith, size, was.least);
        most = subst (λ k. within_maximum k x.ty.maximum ≡ true) size room.1;
        in_range = subst (λ k. k ≤ table_range) size room.0;
        there = each_append (λ r. is_raw_ref m r ≡ true) x.elements (replicate delta y) was.there more.there;
        fits =
            each_append (λ r. raw_ref_fits m r x.ty.element ≡ true) x.elements (replicate delta y) was.fits more.fits;
      } in
      set_table_safe m s n x (longer_table x delta y) found (record { ty = refl; size = omega (arith, size) }) now
