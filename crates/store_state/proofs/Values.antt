-- References to numbers of 31 bits: a ghost field has one proof.
use Rattle.std.proofs.Common.{◌≡◌, ℕ, ◌<◌, ◌≤◌, ◌^◌, Bool, true, false, refl, ap, arith}
use Rattle.std.proofs.lemmas.Bool.{ltb-true, ltb-false}
use Rattle.std.specs.Coded.{le_prop}
use Rattle.std.specs.Prelude.{◌↔◌, nat_lt, Option, Some, None, IfSome, IsNone}
use mathlib.Core.HLevel.{is_prop→PathP}
use Rattle.spec_machine.specs.Values.{any_by, any_of}
use Rattle.wasm_values.specs.References.{i31}
use Rattle.wasm_values.specs.declared.references.AnyRef.{AnyRef}

any_is : (x y : AnyRef) → x.value ≡ y.value → x ≡ y
any_is x y e =
    λ i. record { value = e i; small = is_prop→PathP (λ j. e j < 2 ^ 31) (λ j. le_prop) x.small y.small i }

some_by : (a : AnyRef) (n : ℕ) (b : Bool) (e : nat_lt n (2 ^ 31) ≡ b) → i31 a ≡ n → Some a ≡ any_by n b e
some_by a n true e is = ap Some (any_is a (record { value = n; small = ltb-true n (2 ^ 31) e }) is)
some_by a n false e is =
    let small : i31 a < 2 ^ 31 = a.small in let large : 2 ^ 31 ≤ n = ltb-false n (2 ^ 31) e in absurd (omega arith)

none_by : (n : ℕ) (b : Bool) (e : nat_lt n (2 ^ 31) ≡ b) → 2 ^ 31 ≤ n → None ≡ any_by n b e
none_by n true e large = let small : n < 2 ^ 31 = ltb-true n (2 ^ 31) e in absurd (omega arith)
none_by n false e large = refl

-- what a maker of such references gives
pub any_given : (r : Option AnyRef) (n : ℕ) → IfSome r (λ a. i31 a ≡ n) → (IsNone r ↔ (2 ^ 31 ≤ n)) → r ≡ any_of n
any_given (Some a) n given refused = some_by a n (nat_lt n (2 ^ 31)) refl given
any_given None n given refused = none_by n (nat_lt n (2 ^ 31)) refl (refused.0 refl)
