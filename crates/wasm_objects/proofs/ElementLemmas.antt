-- One element that is put in its place, more at the end, and tables that are new.
use Rattle.std.proofs.Common.{◌≡◌, ℕ, ◌+◌, ◌-◌, ◌<◌, ◌≤◌, List, [], ◌++◌, length, map, set, get_or, replicate, true, false, sym, ap, ◌∙◌, subst, arith, length-append}
use Rattle.std.proofs.lemmas.List.{map-set, length-set, map-append, length-replicate, length-map, replicate-append-replicate}
use Rattle.wasm_types.specs.TableTypes.{TableParts}
use Rattle.wasm_types.specs.declared.plain.Cell.{Cell}
use Rattle.wasm_objects.specs.Tables.{table, new_table}
use Rattle.wasm_objects.specs.Growth.{TableObjectParts, longer_table}
use Rattle.wasm_objects.specs.Lazy.{cell_reference, lazy_table}
use Rattle.wasm_objects.specs.Objects.{table_object_parts}
use Rattle.wasm_objects.specs.Slots.{reference_in, references_in, open_places, is_open, one_settled, slot_of, cell_slot, count_settled, AreSettled}
use Rattle.wasm_objects.specs.declared.raw.RawRef.{RawRef}
use Rattle.wasm_objects.specs.declared.slots.Slot.{Slot}
use Rattle.wasm_objects.specs.declared.slots.Slot.TheVariants as s
use Rattle.wasm_objects.proofs.SlotLemmas.{slot_means, slot_closed, count-set, count-most, one_at_most, count-append, count-closed, map-replicate, cells_mean, cells_open}

closed_all : (n : ℕ) (y : Slot) → is_open y ≡ false → AreSettled (replicate n y)
closed_all n y closed =
    count-closed (replicate n y)
    (map-replicate is_open n y ∙ ap (replicate n) closed ∙ ap (λ k. replicate k false) (sym (length-replicate n y)))

module _ (ty : TableParts) (init : RawRef) (fs : List ℕ) (xs : List Slot) (spare filled : ℕ) (old : TableObjectParts)
    (is : table_object_parts (table ty (references_in init fs xs)) spare (open_places xs) filled ≡ old) where
  module _ (at : ℕ) (v : RawRef) (y : Slot) (is_put : y ≡ slot_of v) where
    closed : is_open y ≡ false
    closed = ap is_open is_put ∙ slot_closed v

    no_fewer : at < length xs → count_settled xs ≤ count_settled (set xs at y)
    no_fewer there =
        let now : one_settled (is_open y) ≡ 1 = ap one_settled closed in
        omega (arith, count-set xs at y y there, now, one_at_most (is_open (get_or xs at y)))

    pub kept : at < length xs → filled ≤ count_settled xs → filled ≤ count_settled (set xs at y)
    kept there h = omega (arith, h, no_fewer there)

    pub settles : at < length xs → AreSettled xs → AreSettled (set xs at y)
    settles there h = omega (arith, h, no_fewer there, count-most (set xs at y), length-set xs at y)

    pub written : table ty (references_in init fs (set xs at y)) ≡ table old.table.ty (set old.table.elements at v)
    written =
        ap (table ty) (map-set (reference_in init fs) xs at y
        ∙ ap (set (references_in init fs xs) at) (ap (reference_in init fs) is_put ∙ slot_means init fs v))
        ∙ ap (λ (o : TableObjectParts). table o.table.ty (set o.table.elements at v)) is

    pub places : open_places (set xs at y) ≡ set old.unfilled at false
    places =
        map-set is_open xs at y ∙ ap (set (open_places xs) at) closed
        ∙ ap (λ (o : TableObjectParts). set o.unfilled at false) is

  module _ (extra : ℕ) (v : RawRef) (y : Slot) (is_put : y ≡ slot_of v) (ys : List Slot) (grown : ys ≡ xs ++ replicate extra y) where
    behind : AreSettled (replicate extra y)
    behind = closed_all extra y (ap is_open is_put ∙ slot_closed v)

    sums : count_settled ys ≡ count_settled xs + extra
    sums = omega (arith, ap count_settled grown, count-append xs (replicate extra y), behind, length-replicate extra y)

    pub longer_kept : filled ≤ count_settled xs → filled ≤ count_settled ys
    longer_kept h = omega (arith, h, sums)

    pub longer_settles : AreSettled xs → AreSettled ys
    longer_settles h =
        omega (arith, h, sums, ap length grown, length-append xs (replicate extra y), length-replicate extra y)

    pub longer : table ty (references_in init fs ys) ≡ longer_table old.table extra v
    longer =
        ap (λ l. table ty (references_in init fs l)) grown
        ∙ ap (table ty) (map-append (reference_in init fs) xs (replicate extra y)
        ∙ ap (λ l. references_in init fs xs ++ l) (map-replicate (reference_in init fs) extra y
        ∙ ap (replicate extra) (ap (reference_in init fs) is_put ∙ slot_means init fs v)))
        ∙ ap (λ (o : TableObjectParts). longer_table o.table extra v) is

    pub longer_places : open_places ys ≡ old.unfilled ++ replicate extra false
    longer_places =
        ap open_places grown ∙ map-append is_open xs (replicate extra y)
        ∙ ap (λ l. open_places xs ++ l) (map-replicate is_open extra y
        ∙ ap (replicate extra) (ap is_open is_put ∙ slot_closed v))
        ∙ ap (λ (o : TableObjectParts). o.unfilled ++ replicate extra false) is

-- a new table, each place of it filled
module _ (ty : TableParts) (init : RawRef) (y : Slot) (n : ℕ) (xs : List Slot) (is_put : y ≡ slot_of init)
    (all : xs ≡ replicate n y) (size : n ≡ ty.minimum) where
  closed_new : is_open y ≡ false
  closed_new = ap is_open is_put ∙ slot_closed init

  pub new_settles : AreSettled xs
  new_settles = subst AreSettled (sym all) (closed_all n y closed_new)

  pub new_made : (fs : List ℕ) → table ty (references_in init fs xs) ≡ new_table ty init
  new_made fs =
      ap (table ty) (ap (references_in init fs) all ∙ map-replicate (reference_in init fs) n y
      ∙ ap (replicate n) (ap (reference_in init fs) is_put ∙ slot_means init fs init)
      ∙ ap (λ k. replicate k init) size)

  pub new_places : open_places xs ≡ replicate ty.minimum false
  new_places =
      ap open_places all ∙ map-replicate is_open n y ∙ ap (replicate n) closed_new ∙ ap (λ k. replicate k false) size

-- a new table, each place of it unfilled
module _ (ty : TableParts) (init : RawRef) (fs : List ℕ) (image lent : List Cell) (none cells xs : List Slot) (n l : ℕ)
    (empty : none ≡ []) (seen : lent ≡ image) (front : cells ≡ none ++ map cell_slot lent)
    (whole : xs ≡ cells ++ replicate (n - l) s.AtInit) (size : n ≡ ty.minimum) (long : l ≡ length image) where
  abbrev rest : ℕ
  rest = ty.minimum - length image

  lazy_slots : xs ≡ map cell_slot image ++ replicate rest s.AtInit
  lazy_slots =
      let left : n - l ≡ rest = omega (arith, size, long) in
      whole ∙ ap (λ c. c ++ replicate (n - l) s.AtInit) (front ∙ ap (λ c. c ++ map cell_slot lent) empty
      ∙ ap (map cell_slot) seen)
      ∙ ap (λ k. map cell_slot image ++ replicate k s.AtInit) left

  pub lazy_made : table ty (references_in init fs xs) ≡ lazy_table ty init image fs
  lazy_made =
      let same : rest ≡ ty.minimum - length (map (cell_reference init fs) image) =
      ap (λ k. ty.minimum - k) (sym (length-map image (cell_reference init fs))) in
      ap (table ty) (ap (references_in init fs) lazy_slots
      ∙ map-append (reference_in init fs) (map cell_slot image) (replicate rest s.AtInit)
      ∙ ap (λ c. c ++ references_in init fs (replicate rest s.AtInit)) (cells_mean init fs image)
      ∙ ap (λ c. map (cell_reference init fs) image ++ c) (map-replicate (reference_in init fs) rest s.AtInit)
      ∙ ap (λ k. map (cell_reference init fs) image ++ replicate k init) same)

  pub lazy_places : length image ≤ ty.minimum → open_places xs ≡ replicate ty.minimum true
  lazy_places fits =
      let sum : length image + rest ≡ ty.minimum = omega (arith, fits) in
      ap open_places lazy_slots
      ∙ map-append is_open (map cell_slot image) (replicate rest s.AtInit)
      ∙ ap (λ c. c ++ open_places (replicate rest s.AtInit)) (cells_open image)
      ∙ ap (λ c. replicate (length image) true ++ c) (map-replicate is_open rest s.AtInit)
      ∙ replicate-append-replicate (length image) rest true
      ∙ ap (λ k. replicate k true) sum
