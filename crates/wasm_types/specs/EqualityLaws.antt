-- `same` decides whether two function types are equal.
use Rattle.std.specs.Prelude.{Bool, true, false, ◌&&◌, eqb, ◌≡◌, refl}
use Rattle.std.specs.Bool.{Decides, beq}
use Rattle.std.specs.Cmp.{IsEquivalence, IsPartialEquivalence, decided, booleans_Decides, partial_equiv_from_equiv}
use Rattle.std.specs.Cmp.Derive.{both_true}
use Rattle.std.proofs.lemmas.Bool.{eqb-true, eq-eqb}
use Rattle.std.proofs.Common.{sym, ap, ◌∙◌, true≢false}
use Rattle.wasm_types.specs.Signatures.{Abstract, Number, Heap, Signature, Supertype, Types}
use Rattle.wasm_types.specs.Equality.{of_abstract, of_number, of_finality, same, same_above, same_types, same_heap}
use Rattle.wasm_types.specs.SignatureCode.{to_abstract, to_of_abstract, to_number, to_of_number, to_finality, to_of_finality}
use Rattle.wasm_types.specs.Signatures as sig
use Rattle.wasm_types.specs.declared.plain.Finality.{Finality}

pub both : (a b : Bool) → (a && b) ≡ true → (a ≡ true) × (b ≡ true)
both true b p = (refl, p)
both false b p = absurd (true≢false (sym p))

finality_is : (a b : Finality) → eqb (of_finality a) (of_finality b) ≡ true → a ≡ b
finality_is a b p = sym (to_of_finality a) ∙ ap to_finality (eqb-true _ _ p) ∙ to_of_finality b

number_is : (a b : Number) → eqb (of_number a) (of_number b) ≡ true → a ≡ b
number_is a b p = sym (to_of_number a) ∙ ap to_number (eqb-true _ _ p) ∙ to_of_number b

abstract_is : (a b : Abstract) → eqb (of_abstract a) (of_abstract b) ≡ true → a ≡ b
abstract_is a b p = sym (to_of_abstract a) ∙ ap to_abstract (eqb-true _ _ p) ∙ to_of_abstract b

mutual
  pub same_is : (x y : Signature) → same x y ≡ true → x ≡ y
  same_is (sig.signature e f s ps rs) (sig.signature e' f' s' ps' rs') p =
      let a : (eqb e e' ≡ true) × ((eqb (of_finality f) (of_finality f') && (same_above s s' && (same_types ps ps' && same_types rs rs'))) ≡ true) = both _ _ p in
      let b : (eqb (of_finality f) (of_finality f') ≡ true) × ((same_above s s' && (same_types ps ps' && same_types rs rs')) ≡ true) = both _ _ a.1 in
      let c : (same_above s s' ≡ true) × ((same_types ps ps' && same_types rs rs') ≡ true) = both _ _ b.1 in
      let d : (same_types ps ps' ≡ true) × (same_types rs rs' ≡ true) = both _ _ c.1 in
      λ i. sig.signature (eqb-true e e' a.0 i) (finality_is f f' b.0 i) (above_is s s' c.0 i) (types_are ps ps' d.0 i) (types_are rs rs' d.1 i)

  above_is : (x y : Supertype) → same_above x y ≡ true → x ≡ y
  above_is sig.root sig.root p = refl
  above_is (sig.below t) (sig.below t') p = λ i. sig.below (same_is t t' p i)
  above_is sig.root (sig.below t') p = absurd (true≢false (sym p))
  above_is (sig.below t) sig.root p = absurd (true≢false (sym p))

  pub types_are : (x y : Types) → same_types x y ≡ true → x ≡ y
  types_are sig.end sig.end p = refl
  types_are (sig.number n ts) (sig.number n' ts') p =
      let q : (eqb (of_number n) (of_number n') ≡ true) × (same_types ts ts' ≡ true) = both _ _ p in
      λ i. sig.number (number_is n n' q.0 i) (types_are ts ts' q.1 i)
  types_are (sig.ref b h ts) (sig.ref b' h' ts') p =
      let q : ((beq b b' && same_heap h h') ≡ true) × (same_types ts ts' ≡ true) = both _ _ p in
      let r : (beq b b' ≡ true) × (same_heap h h' ≡ true) = both _ _ q.0 in
      λ i. sig.ref ((booleans_Decides b b').0 r.0 i) (heap_is h h' r.1 i) (types_are ts ts' q.1 i)
  types_are sig.end (sig.number n' ts') p = absurd (true≢false (sym p))
  types_are sig.end (sig.ref b' h' ts') p = absurd (true≢false (sym p))
  types_are (sig.number n ts) sig.end p = absurd (true≢false (sym p))
  types_are (sig.number n ts) (sig.ref b' h' ts') p = absurd (true≢false (sym p))
  types_are (sig.ref b h ts) sig.end p = absurd (true≢false (sym p))
  types_are (sig.ref b h ts) (sig.number n' ts') p = absurd (true≢false (sym p))

  pub heap_is : (x y : Heap) → same_heap x y ≡ true → x ≡ y
  heap_is (sig.abstract a) (sig.abstract a') p = λ i. sig.abstract (abstract_is a a' p i)
  heap_is (sig.concrete t) (sig.concrete t') p = λ i. sig.concrete (same_is t t' p i)
  heap_is (sig.abstract a) (sig.concrete t') p = absurd (true≢false (sym p))
  heap_is (sig.concrete t) (sig.abstract a') p = absurd (true≢false (sym p))

mutual
  pub same_refl : (x : Signature) → same x x ≡ true
  same_refl (sig.signature e f s ps rs) =
      both_true (eq-eqb e e refl) (both_true (eq-eqb _ _ refl) (both_true (above_refl s) (both_true (types_refl ps) (types_refl rs))))

  above_refl : (x : Supertype) → same_above x x ≡ true
  above_refl sig.root = refl
  above_refl (sig.below t) = same_refl t

  types_refl : (x : Types) → same_types x x ≡ true
  types_refl sig.end = refl
  types_refl (sig.number n ts) = both_true (eq-eqb _ _ refl) (types_refl ts)
  types_refl (sig.ref b h ts) = both_true (both_true ((booleans_Decides b b).1 refl) (heap_refl h)) (types_refl ts)

  pub heap_refl : (x : Heap) → same_heap x x ≡ true
  heap_refl (sig.abstract a) = eq-eqb _ _ refl
  heap_refl (sig.concrete t) = same_refl t

pub same_decides : (x y : Signature) → Decides (same x y) (x ≡ y)
same_decides x y = (same_is x y, λ e. ap (same x) (sym e) ∙ same_refl x)

pub same_laws : IsEquivalence same
same_laws = decided same same_decides

pub same_part_laws : IsPartialEquivalence same
same_part_laws = partial_equiv_from_equiv same_laws
