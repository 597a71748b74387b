-- What a look-up finds at a place of a table, and what it leaves there.
use Rattle.std.proofs.Common.{◌≡◌, ℕ, zero, suc, ◌+◌, ◌<◌, ◌≤◌, List, [], ◌∷◌, length, set, get_or, Bool, true, false, refl, sym, ap, ◌∙◌, subst, arith}
use Rattle.std.specs.Prelude.{Option, Some, None, slice_get, option_map, if◌then◌else◌}
use Rattle.std.proofs.lemmas.List.{map-set, length-set}
use Rattle.std.proofs.lemmas.Option.{slice_get-map, slice_get_within, get_or_from_slice_get, none-some}
use Rattle.std.proofs.Math.Seq.{map-set_same}
use Rattle.wasm_types.specs.TableTypes.{TableParts}
use Rattle.wasm_objects.specs.Tables.{table}
use Rattle.wasm_objects.specs.Growth.{TableObjectParts}
use Rattle.wasm_objects.specs.Lazy.{is_so, is_unfilled, filled_behind}
use Rattle.wasm_objects.specs.Objects.{table_object_parts}
use Rattle.wasm_objects.specs.Slots.{reference_in, references_in, open_places, is_open, one_settled, slot_of, count_settled, AreSettled}
use Rattle.wasm_objects.specs.declared.raw.RawRef.{RawRef}
use Rattle.wasm_objects.specs.declared.slots.Slot.{Slot}
use Rattle.wasm_objects.specs.declared.slots.Slot.TheVariants as s
use Rattle.wasm_objects.proofs.SlotLemmas.{slot_means, slot_closed, count-set, count-most}

set_missing : {A : Type 0} (xs : List A) (at : ℕ) (y : A) → slice_get xs at ≡ None → set xs at y ≡ xs
set_missing [] at y e = refl
set_missing (x ∷ xs) zero y e = absurd (none-some x (sym e))
set_missing (x ∷ xs) (suc at) y e = ap (λ l. x ∷ l) (set_missing xs at y e)

module _ (ty : TableParts) (init : RawRef) (fs : List ℕ) (xs : List Slot) (spare filled : ℕ) (old : TableObjectParts)
    (is : table_object_parts (table ty (references_in init fs xs)) spare (open_places xs) filled ≡ old) (at : ℕ) where
  unfilled_at : (o : Option Slot) → slice_get xs at ≡ o → is_unfilled (open_places xs) at ≡ is_so (option_map is_open o)
  unfilled_at o e = ap is_so (slice_get-map is_open xs at ∙ ap (option_map is_open) e)

  counted : (b : Bool) → is_unfilled (open_places xs) at ≡ b →
      (if b then suc filled else filled) ≡ filled_behind old.filled old.unfilled at
  counted b e =
      sym (ap (λ (k : Bool). if k then suc filled else filled) e)
      ∙ ap (λ (o : TableObjectParts). filled_behind o.filled o.unfilled at) is

  -- past the end
  pub missing_places : slice_get xs at ≡ None → old.unfilled ≡ set old.unfilled at false
  missing_places e =
      let same : open_places xs ≡ set (open_places xs) at false =
      sym (ap open_places (set_missing xs at s.Null e)) ∙ map-set is_open xs at s.Null in
      subst (λ (o : TableObjectParts). o.unfilled ≡ set o.unfilled at false) is same

  pub missing_count : slice_get xs at ≡ None → old.filled ≡ filled_behind old.filled old.unfilled at
  missing_count e = sym (ap (λ (o : TableObjectParts). o.filled) is) ∙ counted false (unfilled_at None e)

  module _ (x : Slot) (found : slice_get xs at ≡ Some x) where
    pub within : at < length xs
    within = slice_get_within xs at x found

    pub value : (v : RawRef) (gs : List ℕ) → v ≡ reference_in init gs x → gs ≡ fs → Some v ≡ slice_get old.table.elements at
    value v gs means same =
        ap Some (means ∙ ap (λ l. reference_in init l x) same)
        ∙ sym (slice_get-map (reference_in init fs) xs at ∙ ap (option_map (reference_in init fs)) found)
        ∙ ap (λ (o : TableObjectParts). slice_get o.table.elements at) is

    stands : get_or xs at x ≡ x
    stands = get_or_from_slice_get xs at x x found

    -- at a place that is filled
    pub closed_places : is_open x ≡ false → old.unfilled ≡ set old.unfilled at false
    closed_places e =
        let same : open_places xs ≡ set (open_places xs) at false =
        sym (map-set_same is_open xs at s.Null x (sym (ap is_open stands ∙ e))) ∙ map-set is_open xs at s.Null in
        subst (λ (o : TableObjectParts). o.unfilled ≡ set o.unfilled at false) is same

    pub closed_count : is_open x ≡ false → old.filled ≡ filled_behind old.filled old.unfilled at
    closed_count e = sym (ap (λ (o : TableObjectParts). o.filled) is) ∙ counted false (unfilled_at (Some x) found ∙ e)

    -- at one that is not
    module _ (opened : is_open x ≡ true) where
      pub opened_count : filled + 1 ≡ filled_behind old.filled old.unfilled at
      opened_count =
          let one : filled + 1 ≡ suc filled = omega arith in
          one ∙ counted true (unfilled_at (Some x) found ∙ opened)

      module _ (v : RawRef) (gs : List ℕ) (y : Slot) (means : v ≡ reference_in init gs x) (same : gs ≡ fs)
          (is_put : y ≡ slot_of v) where
        closed : is_open y ≡ false
        closed = ap is_open is_put ∙ slot_closed v

        one_more : count_settled (set xs at y) ≡ suc (count_settled xs)
        one_more =
            let was : one_settled (is_open (get_or xs at x)) ≡ 0 = ap (λ z. one_settled (is_open z)) stands ∙ ap one_settled opened in
            let now : one_settled (is_open y) ≡ 1 = ap one_settled closed in
            omega (arith, count-set xs at y x within, was, now)

        pub below : filled ≤ count_settled xs → filled + 1 ≤ length xs
        below h = omega (arith, h, one_more, count-most (set xs at y), length-set xs at y)

        pub kept : filled ≤ count_settled xs → filled + 1 ≤ count_settled (set xs at y)
        kept h = omega (arith, h, one_more)

        pub settles : AreSettled xs → AreSettled (set xs at y)
        settles h = absurd (omega (arith, h, one_more, count-most (set xs at y), length-set xs at y))

        pub unchanged : table ty (references_in init fs (set xs at y)) ≡ old.table
        unchanged =
            let meant : reference_in init fs y ≡ reference_in init fs (get_or xs at x) =
            ap (reference_in init fs) is_put ∙ slot_means init fs v ∙ means ∙ ap (λ l. reference_in init l x) same
            ∙ ap (reference_in init fs) (sym stands) in
            ap (table ty) (map-set_same (reference_in init fs) xs at y x meant)
            ∙ ap (λ (o : TableObjectParts). o.table) is

        pub places : open_places (set xs at y) ≡ set old.unfilled at false
        places =
            map-set is_open xs at y ∙ ap (set (open_places xs) at) closed
            ∙ ap (λ (o : TableObjectParts). set o.unfilled at false) is
