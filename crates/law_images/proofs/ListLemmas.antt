-- Lists: what stands behind others, and the objects that begin with images.
use Rattle.std.proofs.Common.{◌≡◌, ℕ, zero, suc, ◌+◌, ◌-◌, ◌<◌, List, [], ◌∷◌, ◌++◌, length, set, map, replicate, Some, refl, ap, ◌∙◌, arith}
use Rattle.std.specs.Prelude.{slice_get}
use Rattle.std.proofs.lemmas.List.{set-append_right}
use Rattle.std.proofs.lemmas.Option.{none-some, same_Some}
use Rattle.spec_execution.specs.Allocation.{from}
use Rattle.law_images.specs.Leading.{imaged}

module _ {A : Type 0} where
  pub seam_there : (front : List A) (y : A) (rest : List A) → slice_get (front ++ y ∷ rest) (length front) ≡ Some y
  seam_there [] y rest = refl
  seam_there (x ∷ front) y rest = seam_there front y rest

  pub behind_there : (xs ys : List A) (k : ℕ) → slice_get (xs ++ ys) (length xs + k) ≡ slice_get ys k
  behind_there [] ys k =
      let e : zero + k ≡ k = omega arith in
      ap (slice_get ys) e
  behind_there (x ∷ xs) ys k =
      let e : suc (length xs) + k ≡ suc (length xs + k) = omega arith in
      ap (slice_get (x ∷ (xs ++ ys))) e ∙ behind_there xs ys k

  pub behind_set : (xs ys : List A) (k : ℕ) (y : A) → set (xs ++ ys) (length xs + k) y ≡ xs ++ set ys k y
  behind_set xs ys k y =
      let e : (length xs + k) - length xs ≡ k = omega arith in
      set-append_right xs ys (length xs) (length xs + k) y refl (omega arith) ∙ ap (λ i. xs ++ set ys i y) e

pub from_there : (first count k : ℕ) → k < count → slice_get (from first count) k ≡ Some (first + k)
from_there first zero k h = absurd (omega (arith, h))
from_there first (suc count) zero h =
    let e : first ≡ first + zero = omega arith in
    ap Some e
from_there first (suc count) (suc k) h =
    let e : suc first + k ≡ first + suc k = omega arith in
    from_there (suc first) count k (omega (arith, h)) ∙ ap Some e

-- an index space: behind those that are imported stand those that are defined
pub defined_there : (imports : List ℕ) (first count : ℕ) (index number : ℕ) → index ≡ length imports + number →
    number < count → slice_get (imports ++ from first count) index ≡ Some (first + number)
defined_there imports first count index number e h =
    ap (slice_get (imports ++ from first count)) e ∙ behind_there imports (from first count) number
    ∙ from_there first count number h

-- ---- the objects that begin with images

module _ {Declared Item Object : Type 0} (object : Declared → List Item → Object) where
  pub imaged_there : (ds : List Declared) (images : List (List Item)) (k : ℕ) (declared : Declared) (image : List Item) →
      slice_get ds k ≡ Some declared → slice_get images k ≡ Some image →
      slice_get (imaged object ds images) k ≡ Some (object declared image)
  imaged_there [] images k declared image e f = absurd (none-some declared e)
  imaged_there (d ∷ ds) [] k declared image e f = absurd (none-some image f)
  imaged_there (d ∷ ds) (i ∷ images) zero declared image e f =
      λ j. Some (object (same_Some d declared e j) (same_Some i image f j))
  imaged_there (d ∷ ds) (i ∷ images) (suc k) declared image e f = imaged_there ds images k declared image e f

  pub imaged_set : (ds : List Declared) (images : List (List Item)) (k : ℕ) (declared : Declared) (image behind : List Item) →
      slice_get ds k ≡ Some declared → slice_get images k ≡ Some image →
      imaged object ds (set images k behind) ≡ set (imaged object ds images) k (object declared behind)
  imaged_set [] images k declared image behind e f = absurd (none-some declared e)
  imaged_set (d ∷ ds) [] k declared image behind e f = absurd (none-some image f)
  imaged_set (d ∷ ds) (i ∷ images) zero declared image behind e f =
      ap (λ x. object x behind ∷ imaged object ds images) (same_Some d declared e)
  imaged_set (d ∷ ds) (i ∷ images) (suc k) declared image behind e f =
      ap (λ l. object d i ∷ l) (imaged_set ds images k declared image behind e f)

  -- those with nothing in their images
  pub imaged_none : (fresh : Declared → Object) → ((d : Declared) → object d [] ≡ fresh d) → (ds : List Declared) →
      imaged object ds (replicate (length ds) []) ≡ map fresh ds
  imaged_none fresh is [] = refl
  imaged_none fresh is (d ∷ ds) = λ j. is d j ∷ imaged_none fresh is ds j
