-- Tests of equality are exact.
use Rattle.std.specs.Prelude.{ℕ, Bool, true, ◌&&◌, ◌≡◌, refl, Option, Some, None, nat_eq}
use Rattle.std.specs.Option.{option_eq}
use Rattle.std.specs.Cmp.Derive.{both_true}
use Rattle.std.proofs.lemmas.Bool.{eqb-true, eq-eqb}
use Rattle.std.proofs.Common.{ap, sym, ◌∙◌}
use Rattle.wasm_types.specs.EqualityLaws.{both, same_decides}
use Rattle.wasm_types.specs.ExternTypes.{same_ref_type, same_val_type}
use Rattle.wasm_types.specs.GlobalTypes.{GlobalParts}
use Rattle.wasm_types.specs.Laws.{IsExact}
use Rattle.wasm_types.specs.MemoryTypes.{MemoryParts}
use Rattle.wasm_types.specs.TableTypes.{TableParts}
use Rattle.wasm_types.proofs.DerivedEqualityLemmas.{ref_alike, val_alike}
use Rattle.wasm_types.proofs.MatchingLemmas.{no}
use Rattle.wasm_types.proofs.RoundTripLemmas.{ref_exact, val_exact}
use Rattle.wasm_types.specs.declared.plain.Mutability.{Mutability}
use Rattle.wasm_types.specs.declared.plain.Mutability.TheVariants.{Const, Var}
use Rattle.wasm_types.specs.declared.extern_type.ExternType.{ExternType}
use Rattle.wasm_types.specs.declared.extern_type.ExternType.TheVariants as x
use Rattle.wasm_types.specs.contracts.plain.MutabilityPartialEq.TheImpl.{ghosts as mutability_eq}
use Rattle.wasm_types.specs.contracts.extern_type.GlobalTypePartialEq.TheImpl.{ghosts as global_eq}
use Rattle.wasm_types.specs.contracts.extern_type.TagTypePartialEq.TheImpl.{ghosts as tag_eq}
use Rattle.wasm_types.specs.contracts.extern_type.ExternTypePartialEq.TheImpl.{ghosts as extern_eq}
use Rattle.wasm_types.specs.contracts.table_type.TableTypePartialEq.TheImpl.{ghosts as table_eq}
use Rattle.wasm_types.specs.contracts.memory_type.MemoryTypePartialEq.TheImpl.{ghosts as memory_eq}

exact_by : {A : Type 0} (f : A → A → Bool) → ((x y : A) → f x y ≡ true → x ≡ y) → ((x : A) → f x x ≡ true) → IsExact f
exact_by f is own x y = (is x y, λ p. ap (f x) (sym p) ∙ own x)

exact_alike : {A : Type 0} (f g : A → A → Bool) → ((x y : A) → f x y ≡ g x y) → IsExact f → IsExact g
exact_alike f g alike exact x y = (λ p. (exact x y).0 (alike x y ∙ p), λ p. sym (alike x y) ∙ (exact x y).1 p)

pub same_ref_exact : IsExact same_ref_type
same_ref_exact = exact_alike _ _ ref_alike ref_exact

pub same_val_exact : IsExact same_val_type
same_val_exact = exact_alike _ _ val_alike val_exact

nat_exact : IsExact nat_eq
nat_exact = exact_by nat_eq eqb-true (λ n. eq-eqb n n refl)

option_is : (o p : Option ℕ) → option_eq nat_eq o p ≡ true → o ≡ p
option_is None None h = refl
option_is (Some n) (Some m) h = ap Some (eqb-true n m h)
option_is None (Some m) h = no h
option_is (Some n) None h = no h

option_own : (o : Option ℕ) → option_eq nat_eq o o ≡ true
option_own None = refl
option_own (Some n) = eq-eqb n n refl

mutability_is : (a b : Mutability) → mutability_eq.eq a b ≡ true → a ≡ b
mutability_is Const Const p = refl
mutability_is Var Var p = refl
mutability_is Const Var p = no p
mutability_is Var Const p = no p

mutability_own : (a : Mutability) → mutability_eq.eq a a ≡ true
mutability_own Const = refl
mutability_own Var = refl

global_is : (a b : GlobalParts) → global_eq.eq a b ≡ true → a ≡ b
global_is a b p =
    let q : (_ ≡ true) × (mutability_eq.eq a.mutability b.mutability ≡ true) = both _ _ p in
    λ i. record { content = (val_exact a.content b.content).0 q.0 i; mutability = mutability_is a.mutability b.mutability q.1 i }

pub global_exact : IsExact global_eq.eq
global_exact = exact_by global_eq.eq global_is (λ a. both_true ((val_exact a.content a.content).1 refl) (mutability_own a.mutability))

table_is : (a b : TableParts) → table_eq.eq a b ≡ true → a ≡ b
table_is a b p =
    let q : (_ ≡ true) × ((nat_eq a.minimum b.minimum && option_eq nat_eq a.maximum b.maximum) ≡ true) = both _ _ p in
    let r : (nat_eq a.minimum b.minimum ≡ true) × (option_eq nat_eq a.maximum b.maximum ≡ true) = both _ _ q.1 in
    λ i. record { element = (ref_exact a.element b.element).0 q.0 i; minimum = eqb-true a.minimum b.minimum r.0 i; maximum = option_is a.maximum b.maximum r.1 i }

pub table_exact : IsExact table_eq.eq
table_exact =
    exact_by table_eq.eq table_is
    (λ a. both_true ((ref_exact a.element a.element).1 refl) (both_true (eq-eqb a.minimum a.minimum refl) (option_own a.maximum)))

memory_is : (a b : MemoryParts) → memory_eq.eq a b ≡ true → a ≡ b
memory_is a b p =
    let q : (nat_eq a.minimum b.minimum ≡ true) × ((option_eq nat_eq a.maximum b.maximum && nat_eq a.page_size_log2 b.page_size_log2) ≡ true) = both _ _ p in
    let r : (option_eq nat_eq a.maximum b.maximum ≡ true) × (nat_eq a.page_size_log2 b.page_size_log2 ≡ true) = both _ _ q.1 in
    λ i. record { minimum = eqb-true a.minimum b.minimum q.0 i; maximum = option_is a.maximum b.maximum r.0 i; page_size_log2 = eqb-true a.page_size_log2 b.page_size_log2 r.1 i }

pub memory_exact : IsExact memory_eq.eq
memory_exact =
    exact_by memory_eq.eq memory_is
    (λ a. both_true (eq-eqb a.minimum a.minimum refl) (both_true (option_own a.maximum) (eq-eqb a.page_size_log2 a.page_size_log2 refl)))

pub tag_exact : IsExact tag_eq.eq
tag_exact = same_decides

extern_is : (a b : ExternType) → extern_eq.eq a b ≡ true → a ≡ b
extern_is (x.Func t) (x.Func u) p = ap x.Func ((same_decides t u).0 p)
extern_is (x.Func t) _ p = no p
extern_is (x.Global t) (x.Global u) p = ap x.Global (global_is t u p)
extern_is (x.Global t) _ p = no p
extern_is (x.Table t) (x.Table u) p = ap x.Table (table_is t u p)
extern_is (x.Table t) _ p = no p
extern_is (x.Memory t) (x.Memory u) p = ap x.Memory (memory_is t u p)
extern_is (x.Memory t) _ p = no p
extern_is (x.Tag t) (x.Tag u) p = ap x.Tag ((same_decides t u).0 p)
extern_is (x.Tag t) _ p = no p

extern_own : (a : ExternType) → extern_eq.eq a a ≡ true
extern_own (x.Func t) = (same_decides t t).1 refl
extern_own (x.Global t) = (global_exact t t).1 refl
extern_own (x.Table t) = (table_exact t t).1 refl
extern_own (x.Memory t) = (memory_exact t t).1 refl
extern_own (x.Tag t) = (same_decides t t).1 refl

pub extern_exact : IsExact extern_eq.eq
extern_exact = exact_by extern_eq.eq extern_is extern_own
