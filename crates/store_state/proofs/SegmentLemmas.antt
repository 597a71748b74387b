-- A segment of an instance that is made empty.
use Rattle.std.proofs.Common.{◌≡◌, ℕ, ◌<◌, true, false, List, [], length, get_or, set, ap, sym, ◌∙◌}
use Rattle.std.proofs.lemmas.Bool.{ltb-true, ltb-false}
use Rattle.std.proofs.lemmas.List.{get_or_default, set-get_or}
use Rattle.std.proofs.lemmas.Option.{slice_get-get_or, slice_get_past}
use Rattle.std.specs.Prelude.{nat_lt, slice_get, Some, None}
use Rattle.wasm_objects.specs.declared.raw.RawRef.{RawRef}
use Rattle.store_state.specs.Machine.{segments_at}
use Rattle.store_state.specs.Parts.{SegmentParts, segment_parts}

module _ (ss : List SegmentParts) (i : ℕ) (x : SegmentParts) (there : i < length ss) (read : x ≡ get_or ss i x) where
  here : segments_at ss i ≡ x
  here = get_or_default ss i (segment_parts [] []) x there ∙ sym read

  pub unchanged : (y : SegmentParts) → y ≡ x → set ss i y ≡ ss
  unchanged y e = ap (λ v. set ss i v) (e ∙ read) ∙ set-get_or ss i x

  module _ (k : ℕ) where
    pub no_data : nat_lt k (length x.datas) ≡ false → slice_get (segments_at ss i).datas k ≡ None
    no_data e = ap (λ (s : SegmentParts). slice_get s.datas k) here
        ∙ slice_get_past x.datas k (ltb-false k (length x.datas) e)

    pub some_data : nat_lt k (length x.datas) ≡ true → (y : List ℕ) × (slice_get (segments_at ss i).datas k ≡ Some y)
    some_data e = (
      get_or x.datas k [],
      ap (λ (s : SegmentParts). slice_get s.datas k) here
          ∙ slice_get-get_or x.datas k [] (ltb-true k (length x.datas) e),
    )

    pub without_data_is : (y : SegmentParts) → y ≡ segment_parts x.elements (set x.datas k []) → set ss i y
        ≡ set ss i (segment_parts (segments_at ss i).elements (set (segments_at ss i).datas k []))
    without_data_is y e =
        ap (set ss i) (e ∙ ap (λ (s : SegmentParts). segment_parts s.elements (set s.datas k [])) (sym here))

    pub no_elements : nat_lt k (length x.elements) ≡ false → slice_get (segments_at ss i).elements k ≡ None
    no_elements e =
        ap (λ (s : SegmentParts). slice_get s.elements k) here
        ∙ slice_get_past x.elements k (ltb-false k (length x.elements) e)

    pub some_elements : nat_lt k (length x.elements) ≡ true →
        (y : List RawRef) × (slice_get (segments_at ss i).elements k ≡ Some y)
    some_elements e = (
      get_or x.elements k [],
      ap (λ (s : SegmentParts). slice_get s.elements k) here
          ∙ slice_get-get_or x.elements k [] (ltb-true k (length x.elements) e),
    )

    pub without_elements_is : (y : SegmentParts) → y ≡ segment_parts (set x.elements k []) x.datas → set ss i y
        ≡ set ss i (segment_parts (set (segments_at ss i).elements k []) (segments_at ss i).datas)
    without_elements_is y e =
        ap (set ss i) (e ∙ ap (λ (s : SegmentParts). segment_parts (set s.elements k []) s.datas) (sym here))
