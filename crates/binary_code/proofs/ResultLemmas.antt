-- The results that a block type names, and readers that also leave types.
use Rattle.std.proofs.Common.{◌≡◌, ℕ, Bool, true, false, List, [], ◌∷◌, take, Result, Ok, Err, refl, sym, ◌∙◌, ap, subst, nat_eq, cond, arith}
use Rattle.std.proofs.lemmas.Bool.{ne_eqb}
use Rattle.wasm_leb.specs.Places.{Place}
use Rattle.wasm_types.specs.Signatures.{Signature}
use Rattle.wasm_types.specs.declared.value_types.ValType.{ValType}
use Rattle.wasm_types.specs.declared.value_types.ValType.TheVariants as v
use Rattle.binary_types.specs.Reading.{Read, byte, then, done}
use Rattle.binary_types.specs.Types.{number_type, prefixed, value_by}
use Rattle.binary_types.specs.declared.faults.BinaryFault.{BinaryFault}
use Rattle.binary_types.specs.declared.faults.BinaryFault.TheVariants.{Malformed, Unsupported, Index, Alignment, Refused, OutOfMemory}
use Rattle.binary_code.specs.BlockTypes.{ReadsIn, block_if, number_by_reference, number_by_value, number_of, results_by}
use Rattle.binary_code.specs.declared.context.CodeContext.{CodeContext}

pub read_in_then : {A B : Type 0} (due : Result (A × Place) BinaryFault) (f : A → Read (B × List Signature)) (x : A) (p : Place) (r : Result B BinaryFault) (types : List Signature) (q : Place) → due ≡ Ok (x, p) → ReadsIn (f x p) r types q → ReadsIn (then due f) r types q
read_in_then due f x p (Ok y) types q e h = ap (λ r. then r f) e ∙ h
read_in_then due f x p (Err Malformed) types q e h = ap (λ r. then r f) e ∙ h
read_in_then due f x p (Err (Unsupported a c)) types q e h = ap (λ r. then r f) e ∙ h
read_in_then due f x p (Err (Index a)) types q e h = ap (λ r. then r f) e ∙ h
read_in_then due f x p (Err (Alignment a)) types q e h = ap (λ r. then r f) e ∙ h
read_in_then due f x p (Err (Refused a t)) types q e h = ap (λ r. then r f) e ∙ h
read_in_then due f x p (Err OutOfMemory) types q e h = tt

pub results_none : (types : List Signature) (at code : ℕ) (p : Place) → code ≡ 64 → results_by types at code p ≡ Ok ([], p)
results_none types at code p e = ap (λ (k : ℕ). results_by types at k p) e

choose_other : (b : Bool) (r s : Result (List ValType × Place) BinaryFault) → b ≡ false → cond b r s ≡ s
choose_other b r s e = ap (λ (x : Bool). cond x r s) e

-- a reader of one part behind another reader of one part
then_then : {A B C : Type 0} (r : Result (A × Place) BinaryFault) (g : A → B) (f : B → Read C) → then (then r (λ x. done (g x))) f ≡ then r (λ x. f (g x))
then_then (Ok r) g f = refl
then_then (Err e) g f = refl

pub block_of_value : (c : CodeContext) (types : List Signature) (at code : ℕ) (p : Place) → (code ≡ 64 → ⊥) → then (results_by (take c.declared types) at code p) (number_of c at types) ≡ number_by_value c types at code p
block_of_value c types at code p h =
    ap (λ r. then r (number_of c at types)) (choose_other (nat_eq code 64) _ _ (ne_eqb code 64 h))
    ∙ then_then (value_by (take c.declared types) at code (number_type code) p) (λ t. t ∷ []) (number_of c at types)

-- 63 and 64 stand in front of a heap type
block_of_nullable : (c : CodeContext) (types : List Signature) (at : ℕ) (p : Place) → number_by_value c types at 99 p ≡ number_by_reference true c types at p
block_of_nullable c types at p = then_then (prefixed true (take c.declared types) p) v.Ref (λ t. number_of c at types (t ∷ []))

block_of_non_null : (c : CodeContext) (types : List Signature) (at : ℕ) (p : Place) → number_by_value c types at 100 p ≡ number_by_reference false c types at p
block_of_non_null c types at p = then_then (prefixed false (take c.declared types) p) v.Ref (λ t. number_of c at types (t ∷ []))

-- what is due of a coded block type, by what is due of its results and its number
pub coded_by : (c : CodeContext) (types : List Signature) (at code : ℕ) (p q after : Place) (r : Result ℕ BinaryFault) (left : List Signature) → at ≡ p.at → byte p ≡ Ok (code, q) → ReadsIn (then (results_by (take c.declared types) at code q) (number_of c at types)) r left after → ReadsIn (block_if true c types p) r left after
coded_by c types at code p q after r left a e h =
    read_in_then (byte p) (λ b s. then (results_by (take c.declared types) p.at b s) (number_of c p.at types)) code q r left after e
    (subst (λ (n : ℕ). ReadsIn (then (results_by (take c.declared types) n code q) (number_of c n types)) r left after) a h)

pub due_is : {A : Type 0} (x y : Result ((A × List Signature) × Place) BinaryFault) (r : Result A BinaryFault) (left : List Signature) (after : Place) → x ≡ y → ReadsIn y r left after → ReadsIn x r left after
due_is x y r left after e h = subst (λ (z : Result ((_ × List Signature) × Place) BinaryFault). ReadsIn z r left after) (sym e) h

pub nullable_due : (c : CodeContext) (types : List Signature) (at code : ℕ) (p : Place) → code ≡ 99 → then (results_by (take c.declared types) at code p) (number_of c at types) ≡ number_by_reference true c types at p
nullable_due c types at code p e =
    ap (λ (k : ℕ). then (results_by (take c.declared types) at k p) (number_of c at types)) e
    ∙ block_of_value c types at 99 p (λ h. omega arith) ∙ block_of_nullable c types at p

pub non_null_due : (c : CodeContext) (types : List Signature) (at code : ℕ) (p : Place) → code ≡ 100 → then (results_by (take c.declared types) at code p) (number_of c at types) ≡ number_by_reference false c types at p
non_null_due c types at code p e =
    ap (λ (k : ℕ). then (results_by (take c.declared types) at k p) (number_of c at types)) e
    ∙ block_of_value c types at 100 p (λ h. omega arith) ∙ block_of_non_null c types at p
