-- What calls of a table leave: its elements, which places are unfilled, and how many are settled.
use Rattle.std.proofs.Common.{◌≡◌, ℕ, ◌+◌, ◌≤◌, List, ◌++◌, length, map, take, drop, replicate, Bool, true, false, refl, sym, ap, ◌∙◌, subst, arith}
use Rattle.std.specs.Bool.{OnTrue, OnFalse}
use Rattle.std.specs.Prelude.{◌&&◌, nat_le}
use Rattle.std.proofs.lemmas.Bool.{and_parts, leb-true, OnTrue_at, OnFalse_at, OnTrue_from}
use Rattle.std.proofs.lemmas.List.{length-map, length-replicate}
use Rattle.wasm_types.specs.Ranges.{is_range, range_of, with_range}
use Rattle.wasm_types.specs.TableTypes.{TableParts}
use Rattle.wasm_objects.specs.Tables.{table}
use Rattle.wasm_objects.specs.Growth.{TableObjectParts}
use Rattle.wasm_objects.specs.Objects.{table_object_parts}
use Rattle.wasm_objects.specs.Slots.{reference_in, references_in, open_places, slot_of, count_settled, AreSettled}
use Rattle.wasm_objects.specs.declared.raw.RawRef.{RawRef}
use Rattle.wasm_objects.specs.declared.slots.Slot.{Slot}
use Rattle.wasm_objects.proofs.SlotLemmas.{written_means, written_places, written_length, written_count, written_settled}
use Rattle.wasm_objects.proofs.WriteLemmas.{length-range_of, left_over_all}

-- what a call that writes to a range is told of: the range is there, and as long as what is written
module _ (at len : ℕ) (piece : List RawRef) (xs : List Slot) where
  abbrev pub Fits : Type 0
  Fits = (at + len ≤ length xs) × (length piece ≡ len)

pub fill_fits : (at len : ℕ) (value : RawRef) (xs : List Slot) (done : Bool) → done ≡ is_range at len xs → done ≡ true →
    Fits at len (replicate len value) xs
fill_fits at len value xs done is e =
    (leb-true (at + len) (length xs) (sym is ∙ e), length-replicate len value)

pub range_fits : (dst src len : ℕ) (source : List RawRef) (xs : List Slot) (done : Bool) →
    done ≡ (is_range dst len xs && is_range src len source) → done ≡ true → Fits dst len (range_of src len source) xs
range_fits dst src len source xs done is e =
    let both = and_parts (is_range dst len xs) (is_range src len source) (sym is ∙ e) in (
      leb-true (dst + len) (length xs) both.0,
      length-range_of src len source (leb-true (src + len) (length source) both.1),
    )

pub copied_fits : (dst src len : ℕ) (init : RawRef) (fs : List ℕ) (source : List Slot) (items : List RawRef) →
    references_in init fs source ≡ items → (xs : List Slot) (done : Bool) →
    done ≡ (is_range dst len xs && is_range src len source) → done ≡ true → Fits dst len (range_of src len items) xs
copied_fits dst src len init fs source items seen xs done is =
    let same : length source ≡ length items = sym (length-map source (reference_in init fs)) ∙ ap length seen in
    range_fits dst src len items xs done (is ∙ ap (λ n. is_range dst len xs && nat_le (src + len) n) same)

-- a write to a range of a table's places, which were lent as a slice
module _ (ty : TableParts) (init : RawRef) (fs : List ℕ) (xs lent ys : List Slot) (seen : lent ≡ xs) (spare filled n : ℕ) (old : TableObjectParts)
    (is : table_object_parts (table ty (references_in init fs xs)) spare (open_places xs) filled ≡ old)
    (at len : ℕ) (piece : List RawRef) (qs : List Slot) (shape : qs ≡ map slot_of piece) (done : Bool)
    (there : done ≡ true → Fits at len piece lent) (written : OnTrue done (ys ≡ with_range at qs lent))
    (refused : OnFalse done (ys ≡ lent)) (long : n ≡ length xs) where
  abbrev back : List Slot
  back = take n (ys ++ drop (length ys) xs)

  was : done ≡ true → ys ≡ with_range at (map slot_of piece) xs
  was e = OnTrue_at e written ∙ ap (λ l. with_range at l lent) shape ∙ ap (with_range at (map slot_of piece)) seen

  was_not : done ≡ false → ys ≡ xs
  was_not e = OnFalse_at e refused ∙ seen

  within : done ≡ true → at + length piece ≤ length xs
  within e = let fits = there e in omega (arith, fits.0, fits.1, ap length seen)

  same_length : length ys ≡ length xs
  same_length = by done refl
    where
      by : (b : Bool) → b ≡ done → length ys ≡ length xs
      by true e = ap length (was (sym e)) ∙ written_length at piece xs (within (sym e))
      by false e = ap length (was_not (sym e))

  pub stands : back ≡ ys
  stands = left_over_all n xs ys long same_length

  kept_count : count_settled xs ≤ count_settled ys
  kept_count = by done refl
    where
      by : (b : Bool) → b ≡ done → count_settled xs ≤ count_settled ys
      by true e = omega (arith, ap count_settled (was (sym e)), written_count at piece xs (within (sym e)))
      by false e = omega (arith, ap count_settled (was_not (sym e)))

  pub kept : filled ≤ count_settled xs → filled ≤ count_settled back
  kept h = omega (arith, h, kept_count, ap count_settled stands)

  kept_settled : AreSettled xs → AreSettled ys
  kept_settled h = by done refl
    where
      by : (b : Bool) → b ≡ done → AreSettled ys
      by true e = subst AreSettled (sym (was (sym e))) (written_settled at piece xs (within (sym e)) h)
      by false e = subst AreSettled (sym (was_not (sym e))) h

  pub settles : AreSettled xs → AreSettled back
  settles h = subst AreSettled (sym stands) (kept_settled h)

  pub elements : OnTrue done (table ty (references_in init fs back) ≡ table old.table.ty (with_range at piece old.table.elements))
  elements = OnTrue_from done _ (λ e.
      ap (λ l. table ty (references_in init fs l)) (stands ∙ was e)
      ∙ ap (table ty) (written_means at piece xs init fs)
      ∙ ap (λ (o : TableObjectParts). table o.table.ty (with_range at piece o.table.elements)) is)

  pub places : OnTrue done (open_places back ≡ with_range at (replicate len false) old.unfilled)
  places = OnTrue_from done _ (λ e.
      let fits = there e in
      ap open_places (stands ∙ was e)
      ∙ written_places at piece xs
      ∙ ap (λ k. with_range at (replicate k false) (open_places xs)) fits.1
      ∙ ap (λ (o : TableObjectParts). with_range at (replicate len false) o.unfilled) is)
