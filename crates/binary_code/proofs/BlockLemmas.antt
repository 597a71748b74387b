-- The type of a block is looked for by a key: what the key says is what gives the block's results.
use Rattle.std.proofs.Common.{◌≡◌, ℕ, zero, suc, ◌+◌, Bool, true, false, ◌&&◌, List, [], ◌∷◌, ◌++◌, length, take, Some, None, refl, sym, ◌∙◌, ap, subst, nat_eq, arith}
use Rattle.std.specs.Prelude.{position, slice_get}
use Rattle.std.proofs.lemmas.Bool.{ne_eqb}
use Rattle.wasm_types.specs.Equality.{same_types}
use Rattle.wasm_types.specs.EqualityLaws.{same_laws}
use Rattle.wasm_types.specs.FunctionParts.{from_parts, heap_type_of, number_type, parts, ref_type, types_of, val_types}
use Rattle.wasm_types.specs.Signatures.{Signature, Types}
use Rattle.wasm_types.specs.Signatures as sig
use Rattle.wasm_types.specs.declared.plain.Finality.TheVariants.{Final, NonFinal}
use Rattle.wasm_types.specs.declared.value_types.ValType.{ValType}
use Rattle.wasm_types.specs.declared.value_types.ValType.TheVariants as v
use Rattle.wasm_types.proofs.SoundTypeLemmas.{is_of_its_parts}
use Rattle.binary_index.specs.Indexes.{AreNumberedIn}
use Rattle.binary_index.specs.Keys.{IsKeyOf, Says, alike, first_alike, one, types_key}
use Rattle.binary_index.proofs.Positions.{first_agreed}
use Rattle.binary_code.specs.BlockTypes.{gives}
use Rattle.binary_code.specs.Slots.{IsBlockKey, block_of}

results_in : Signature → Types
results_in (sig.signature e f s ps rs) = rs

results_round : (r : Types) → types_of (val_types r) ≡ r
unfolding results_in
results_round r = ap results_in (is_of_its_parts (sig.signature 0 Final sig.root sig.end r))

either_way : (a b : Types) → same_types a b ≡ same_types b a
either_way a b = same_laws.symm (sig.signature 0 Final sig.root sig.end a) (sig.signature 0 Final sig.root sig.end b)

same_results : (rs : List ValType) (r : Types) → same_types (types_of (val_types r)) (types_of rs) ≡ same_types (types_of rs) r
same_results rs r = ap (λ (x : Types). same_types x (types_of rs)) (results_round r) ∙ either_way r (types_of rs)

not_empty : (x : ValType) (xs : List ValType) → nat_eq (length (x ∷ xs)) 0 ≡ false
not_empty x xs = ne_eqb (length (x ∷ xs)) 0 (λ e. omega arith)

gives_alike : (rs : List ValType) (u : Signature) → gives rs u ≡ alike (block_of rs) u
gives_alike rs (sig.signature e Final sig.root sig.end r) = same_results rs r
gives_alike rs (sig.signature e Final sig.root (sig.number n ps) r) = ap (λ (b : Bool). b && same_types (types_of (val_types r)) (types_of rs)) (not_empty (number_type n) (val_types ps))
gives_alike rs (sig.signature e Final sig.root (sig.ref b h ps) r) = ap (λ (c : Bool). c && same_types (types_of (val_types r)) (types_of rs)) (not_empty (v.Ref (ref_type b (heap_type_of h))) (val_types ps))
gives_alike rs (sig.signature e Final (sig.below t) ps r) = refl
gives_alike rs (sig.signature e NonFinal s ps r) = refl

pub first_gives : (rs : List ValType) (ts : List Signature) → first_alike ts (block_of rs) ≡ position (gives rs) ts
first_gives rs ts = first_agreed (alike (block_of rs)) (gives rs) ts (λ k u e. sym (gives_alike rs u))

-- the type that is made of a block's results has the block's key
pub block_made : (ts : List Signature) (engine : ℕ) (rs : List ValType) (t : Signature) (key : List ℕ) → t ≡ from_parts (parts engine Final None [] rs) → IsBlockKey ts rs key → IsKeyOf ts t key
block_made ts engine rs t key e h = subst (λ (u : Signature). IsKeyOf ts u key) (sym e) h

-- the first types have the same numbers among all
in_front : (ts : List Signature) (n k : ℕ) (t : Signature) → slice_get (take n ts) k ≡ Some t → slice_get ts k ≡ Some t
in_front [] zero k t e = e
in_front [] (suc n) k t e = e
in_front (u ∷ us) zero k t e = absurd (cc e)
in_front (u ∷ us) (suc n) zero t e = e
in_front (u ∷ us) (suc n) (suc k) t e = in_front us n k t e

pub numbered_front : (ts us front : List Signature) (n : ℕ) → ts ≡ us → front ≡ take n us → AreNumberedIn front ts
numbered_front ts us front n s e k t h =
    subst (λ (l : List Signature). slice_get l k ≡ Some t) (sym s)
    (in_front us n k t (subst (λ (l : List Signature). slice_get l k ≡ Some t) e h))

-- a key that was made of one result
pub key_of_one : (ts : List Signature) (t : ValType) (begun key : List ℕ) → begun ≡ 0 ∷ 0 ∷ 0 ∷ [] → Says ts (one t) begun key → IsBlockKey ts (t ∷ []) key
key_of_one ts t begun key e h = (h.0 ∙ ap (λ (l : List ℕ). l ++ types_key ts (one t)) e, (tt, tt, h.1))
