-- Places that were copied: filled in where they came to, whether they were open where they came from or not.
use Rattle.std.proofs.Common.{◌≡◌, ℕ, ◌+◌, ◌≤◌, List, [], ◌∷◌, length, map, true, refl, sym, ap, ◌∙◌, arith}
use Rattle.std.specs.Prelude.{◌&&◌}
use Rattle.std.proofs.lemmas.Bool.{and_parts, leb-true}
use Rattle.std.proofs.lemmas.List.{length-map}
use Rattle.wasm_types.specs.Ranges.{is_range, range_of, with_range}
use Rattle.wasm_objects.specs.Slots.{reference_in, references_in, slot_of, settled, AreSettled}
use Rattle.wasm_objects.specs.declared.raw.RawRef.{RawRef}
use Rattle.wasm_objects.specs.declared.slots.Slot.{Slot}
use Rattle.wasm_objects.proofs.SlotLemmas.{map-range_of, slots_stand}
use Rattle.wasm_objects.proofs.WriteLemmas.{range_of-with_range, with_range_again, length-range_of}

-- to fill in is to put what it means in its place
settled_parts : (init : RawRef) (fs : List ℕ) (xs : List Slot) → map (settled init fs) xs ≡ map slot_of (references_in init fs xs)
settled_parts init fs [] = refl
settled_parts init fs (x ∷ xs) = λ i. settled init fs x ∷ settled_parts init fs xs i

settled_range : (init : RawRef) (fs : List ℕ) (src len : ℕ) (source : List Slot) →
    map (settled init fs) (range_of src len source) ≡ map slot_of (range_of src len (references_in init fs source))
settled_range init fs src len source =
    settled_parts init fs (range_of src len source)
    ∙ ap (map slot_of) (map-range_of (reference_in init fs) src len source)

-- copied as they stood, and then filled in
pub copied_settled : (init : RawRef) (fs gs : List ℕ) (dst src len : ℕ) (xs source ys zs : List Slot) →
    true ≡ (is_range dst len xs && is_range src len source) → ys ≡ with_range dst (range_of src len source) xs →
    zs ≡ with_range dst (map (settled init gs) (range_of dst len ys)) ys → gs ≡ fs →
    zs ≡ with_range dst (map slot_of (range_of src len (references_in init fs source))) xs
copied_settled init fs gs dst src len xs source ys zs there copied settles same =
    let both = and_parts (is_range dst len xs) (is_range src len source) (sym there) in
    let into : dst + len ≤ length xs = leb-true (dst + len) (length xs) both.0 in
    let from : src + len ≤ length source = leb-true (src + len) (length source) both.1 in
    let piece : List Slot = range_of src len source in
    let long : length piece ≡ len = length-range_of src len source from in
    let within : dst + length piece ≤ length xs = omega (arith, into, long) in
    let read : range_of dst len (with_range dst piece xs) ≡ piece =
    ap (λ n. range_of dst n (with_range dst piece xs)) (sym long) ∙ range_of-with_range dst piece xs within in
    let again : length (map (settled init fs) piece) ≡ length piece = length-map piece (settled init fs) in
    settles
    ∙ ap (λ l. with_range dst (map (settled init gs) (range_of dst len l)) l) copied
    ∙ ap (λ hs. with_range dst (map (settled init hs) (range_of dst len (with_range dst piece xs))) (with_range dst piece xs)) same
    ∙ ap (λ l. with_range dst (map (settled init fs) l) (with_range dst piece xs)) read
    ∙ with_range_again dst piece xs within (map (settled init fs) piece) again
    ∙ ap (λ l. with_range dst l xs) (settled_range init fs src len source)

-- copied from where all were filled
pub copied_closed : (init : RawRef) (fs : List ℕ) (dst src len : ℕ) (xs source ys : List Slot) → AreSettled source →
    ys ≡ with_range dst (range_of src len source) xs →
    ys ≡ with_range dst (map slot_of (range_of src len (references_in init fs source))) xs
copied_closed init fs dst src len xs source ys closed copied =
    copied
    ∙ ap (λ l. with_range dst (range_of src len l) xs) (sym (slots_stand init fs source closed))
    ∙ ap (λ l. with_range dst l xs) (sym (map-range_of (settled init fs) src len source))
    ∙ ap (λ l. with_range dst l xs) (settled_range init fs src len source)
