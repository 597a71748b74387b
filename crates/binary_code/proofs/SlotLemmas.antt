-- The number of the first type of a kind stays what it is as types are added, and is kept by its kind.
use Rattle.std.proofs.Common.{◌≡◌, ℕ, zero, suc, List, [], ◌∷◌, ◌++◌, set, Option, Some, ◌⊎◌, inl, inr, refl, sym, ◌∙◌, ap, subst}
use Rattle.std.specs.Prelude.{position, slice_get}
use Rattle.wasm_types.specs.Signatures.{Signature}
use Rattle.wasm_types.specs.declared.value_types.ValType.{ValType}
use Rattle.binary_index.proofs.Positions.{first_more}
use Rattle.binary_code.specs.BlockTypes.{gives}
use Rattle.binary_code.specs.Slots.{AreKnown, results_of}

known_more : (types more : List Signature) (slots : List (Option ℕ)) → AreKnown types slots → AreKnown (types ++ more) slots
known_more types more slots known k n e = first_more (gives (results_of k)) n types more (known k n e)

-- what is in a list behind a write: what was there, or what was written
behind_write : {A : Type 0} (xs : List A) (i k : ℕ) (x y : A) → slice_get (set xs i x) k ≡ Some y → (slice_get xs k ≡ Some y) ⊎ ((k ≡ i) × (y ≡ x))
behind_write [] i k x y e = inl e
behind_write (z ∷ zs) zero zero x y e = inr (refl, cc e)
behind_write (z ∷ zs) zero (suc k) x y e = inl e
behind_write (z ∷ zs) (suc i) zero x y e = inl e
behind_write (z ∷ zs) (suc i) (suc k) x y e =
    elim (behind_write zs i k x y e) as (λ _. (slice_get zs k ≡ Some y) ⊎ ((suc k ≡ suc i) × (y ≡ x))) [
      | inl h ↦ inl h
      | inr h ↦ inr (ap suc h.0, h.1)
    ]

pub known_kept : (types : List Signature) (slots : List (Option ℕ)) (kind number : ℕ) (rs : List ValType) → AreKnown types slots → results_of kind ≡ rs → position (gives rs) types ≡ Some number → AreKnown types (set slots kind (Some number))
known_kept types slots kind number rs known same first k n e =
    elim (behind_write slots kind k (Some number) (Some n) e) as (λ _. position (gives (results_of k)) types ≡ Some n) [
      | inl h ↦ known k n h
      | inr h ↦ ap (λ (i : ℕ). position (gives (results_of i)) types) h.0 ∙ ap (λ (r : List ValType). position (gives r) types) same ∙ first ∙ sym h.1
    ]

pub known_pushed : (types given new : List Signature) (t : Signature) (slots : List (Option ℕ)) → given ≡ types → new ≡ given ++ t ∷ [] → AreKnown types slots → AreKnown new slots
known_pushed types given new t slots g e known =
    subst (λ (ts : List Signature). AreKnown ts slots) (sym (e ∙ ap (λ (ts : List Signature). ts ++ t ∷ []) g)) (known_more types (t ∷ []) slots known)
