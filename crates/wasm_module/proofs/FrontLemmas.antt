-- A front that is filled up and written to, and images that stay images.
use Rattle.std.proofs.Common.{◌≡◌, ℕ, zero, suc, ◌+◌, ◌-◌, ◌<◌, ◌≤◌, List, [], ◌∷◌, ◌++◌, length, set, get_or, take, drop, replicate, Bool, true, false, Option, Some, None, refl, sym, ap, ◌∙◌, subst, arith, length-append, append-nil, map, inl, inr}
use Rattle.std.specs.Prelude.{max, slice_get, option_map, option_and_then, nat_le, if◌then◌else◌, ◌≢◌}
use Rattle.std.specs.List.{sum_by}
use Rattle.std.proofs.lemmas.Bool.{leb-true}
use Rattle.std.proofs.lemmas.Bool.Decides.{eqb_tells}
use Rattle.std.proofs.lemmas.List.{length-take, length-drop, length-set, length-map, get_or-map, map-set}
use Rattle.std.proofs.Math.Seq.{map-set_same}
use Rattle.std.proofs.lemmas.List.Sums.{sum_by-set}
use Rattle.std.proofs.lemmas.Option.{none-some, slice_get_within, get_or_from_slice_get, slice_get-get_or}
use Rattle.wasm_types.specs.Ranges.{with_range, padded, written}
use Rattle.wasm_types.proofs.RangeLemmas.{padded_length, padded_written}
use Rattle.wasm_module.specs.Images.{image_written, within}
use Rattle.wasm_module.specs.Fitting.{AreImages}

module _ {A : Type 0} (blank : A) where
  -- nothing is to be filled up
  pub padded_long : (size : ℕ) (items : List A) → size ≤ length items → padded size blank items ≡ items
  padded_long size items long =
      let none : size - length items ≡ 0 = omega (arith, long) in
      ap (λ k. items ++ replicate k blank) none ∙ append-nil items

  pub written_some : (at : ℕ) (x : A) (piece items : List A) →
      length (written blank at (x ∷ piece) items) ≡ max (length items) (at + length (x ∷ piece))
  written_some at x piece items =
      let whole : List A = padded at blank items in
      let front : List A = take at whole ++ x ∷ piece in
      omega (
        arith,
        padded_length at blank items,
        length-take at whole,
        length-append (take at whole) (x ∷ piece),
        length-drop (at + length (x ∷ piece)) whole,
        length-append front (drop (at + length (x ∷ piece)) whole),
      )

  -- filled up first to where the piece ends
  pub written_whole : (at : ℕ) (x : A) (piece items : List A) →
      with_range at (x ∷ piece) (padded (at + length (x ∷ piece)) blank items) ≡ written blank at (x ∷ piece) items
  written_whole at x piece items =
      let stop : ℕ = at + length (x ∷ piece) in
      sym (padded_written at stop blank (x ∷ piece) items (omega arith))
      ∙ padded_long stop (written blank at (x ∷ piece) items) (omega (arith, written_some at x piece items))

  pub written_length : (at size : ℕ) (piece items : List A) → at + length piece ≤ size → length items ≤ size →
      length (written blank at piece items) ≤ size
  written_length at size [] items ends fits = fits
  written_length at size (x ∷ piece) items ends fits = omega (arith, ends, fits, written_some at x piece items)

  pub something_written : (at : ℕ) (piece items : List A) → 0 < length piece →
      with_range at piece (padded (at + length piece) blank items) ≡ written blank at piece items
  something_written at [] items some = absurd (omega (arith, some))
  something_written at (x ∷ piece) items some = written_whole at x piece items

get_set_same : {A : Type 0} (xs : List A) (i : ℕ) (y x : A) → slice_get xs i ≡ Some x → slice_get (set xs i y) i ≡ Some y
get_set_same [] i y x e = absurd (none-some x e)
get_set_same (z ∷ xs) zero y x e = refl
get_set_same (z ∷ xs) (suc i) y x e = get_set_same xs i y x e

get_set_other : {A : Type 0} (xs : List A) (i k : ℕ) (y : A) → k ≢ i → slice_get (set xs i y) k ≡ slice_get xs k
get_set_other [] i k y ne = refl
get_set_other (z ∷ xs) zero zero y ne = absurd (ne refl)
get_set_other (z ∷ xs) zero (suc k) y ne = refl
get_set_other (z ∷ xs) (suc i) zero y ne = refl
get_set_other (z ∷ xs) (suc i) (suc k) y ne = get_set_other xs i k y (λ e. ne (ap suc e))

pub some_is : {A : Type 0} (x y : A) → Some x ≡ Some y → x ≡ y
some_is x y e = ap (λ o. by o x) e
  where
    by : {A : Type 0} → Option A → A → A
    by None d = d
    by (Some z) d = z

-- what a test that was passed tells
pub where_so : {A : Type 0} (b : Bool) (o : Option A) (y : A) → (if b then o else None) ≡ Some y → (b ≡ true) × (o ≡ Some y)
where_so true o y e = (refl, e)
where_so false o y e = absurd (none-some y e)

-- a piece and the image that it is written to
module _ {A : Type 0} (blank : A) (images : List (List A)) (number at : ℕ) (piece image : List A)
    (stood : slice_get images number ≡ Some image) where
  abbrev behind : List (List A)
  behind = set images number (written blank at piece image)

  -- how long they are together
  pub together : sum_by length behind + length image ≡ sum_by length images + length (written blank at piece image)
  together =
      let at_place : get_or images number image ≡ image = get_or_from_slice_get images number image image stood in
      omega (
        arith,
        sum_by-set length images number (written blank at piece image) image
            (slice_get_within images number image stood),
        ap length at_place,
      )

module _ {A Object : Type 0} (size_of : Object → ℕ) (most : ℕ) (objects : List Object) (blank : A) (images : List (List A))
    (are : AreImages size_of most objects images) where
  pub written_keeps : (number at : ℕ) (piece : List A) (object : Object) (after : List (List A)) →
      slice_get objects number ≡ Some object →
      option_and_then (within most) (image_written blank images number (size_of object) at piece) ≡ Some after →
      AreImages size_of most objects after
  written_keeps number at piece object after found e =
      by (nat_le (at + length piece) (size_of object)) refl (slice_get images number) refl e
    where
      kept : (image : List A) → at + length piece ≤ size_of object → slice_get images number ≡ Some image →
          sum_by length (set images number (written blank at piece image)) ≤ most →
          AreImages size_of most objects (set images number (written blank at piece image))
      kept image ends stood limit =
          let w : List A = written blank at piece image in
          let small : length w ≤ size_of object =
          written_length blank at (size_of object) piece image ends (are.fits number image object stood found) in
          record {
            one_each = length-set images number w ∙ are.one_each;
            limited = limit;
            fits = λ k other o there owned.
                elim (eqb_tells k number) [
                  | inl p ↦
                      (let same : slice_get (set images number w) k ≡ Some w =
                      ap (slice_get (set images number w)) p.1 ∙ get_set_same images number w image stood in
                      let is : other ≡ w = some_is other w (sym there ∙ same) in
                      let owns : o ≡ object = some_is o object (sym owned ∙ ap (slice_get objects) p.1 ∙ found) in
                      omega (arith, small, ap length is, ap size_of owns))
                  | inr q ↦ are.fits k other o (sym (get_set_other images number k w q.1) ∙ there) owned
                ];
          }

      by : (b : Bool) → nat_le (at + length piece) (size_of object) ≡ b → (o : Option (List A)) → slice_get images number ≡ o →
          option_and_then (within most) (if b then option_map (λ image. set images number (written blank at piece image)) o else None)
          ≡ Some after → AreImages size_of most objects after
      by false tested o stood e = absurd (none-some after e)
      by true tested None stood e = absurd (none-some after e)
      by true tested (Some image) stood e =
          let passed = where_so _ _ after e in
          let is : set images number (written blank at piece image) ≡ after = some_is _ after passed.1 in
          subst (AreImages size_of most objects) is
          (kept image (leb-true (at + length piece) (size_of object) tested) stood
          (leb-true (sum_by length (set images number (written blank at piece image))) most passed.0))

-- no image is longer than all of them
pub part_of_all : {A : Type 0} (images : List (List A)) (number : ℕ) (image : List A) → slice_get images number ≡ Some image →
    length image ≤ sum_by length images
part_of_all images number image stood =
    let at_place : get_or images number image ≡ image = get_or_from_slice_get images number image image stood in
    omega (
      arith,
      sum_by-set length images number [] image (slice_get_within images number image stood),
      ap length at_place,
    )

-- images as the items of what holds them
module _ {Front A : Type 0} (items : Front → List A) (fronts : List Front) (images : List (List A)) (are : map items fronts ≡ images)
    (number : ℕ) (front : Front) (there : number < length images) (read : front ≡ get_or fronts number front) where
  pub image_there : slice_get images number ≡ Some (items front)
  image_there =
      let within : number < length fronts = omega (arith, there, ap length are, length-map fronts items) in
      ap (λ l. slice_get l number) (sym are)
      ∙ slice_get-get_or (map items fronts) number (items front) (omega (arith, there, ap length are))
      ∙ ap Some (get_or-map items fronts number front (items front) within ∙ ap items (sym read))

  pub put_same : (behind : Front) → items behind ≡ items front → map items (set fronts number behind) ≡ images
  put_same behind same = map-set_same items fronts number behind front (same ∙ ap items read) ∙ are

  pub put_behind : (blank : A) (at : ℕ) (piece image : List A) (behind : Front) → slice_get images number ≡ Some image →
      items behind ≡ written blank at piece (items front) →
      map items (set fronts number behind) ≡ set images number (written blank at piece image)
  put_behind blank at piece image behind stood is =
      map-set items fronts number behind
      ∙ ap (λ l. set l number (items behind)) are
      ∙ ap (set images number) (is ∙ ap (written blank at piece) (some_is (items front) image (sym image_there ∙ stood)))
