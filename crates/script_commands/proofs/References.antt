-- References to data of WebAssembly, by their numbers.
use Rattle.std.proofs.Common.{◌≡◌, ℕ, ◌^◌, ◌<◌, ◌≤◌, Bool, true, false, nat_lt, Some, None, refl, ap, sym}
use Rattle.std.specs.Coded.{le_prop}
use Rattle.std.proofs.lemmas.Bool.{lt-ltb, le-ltb}
use mathlib.Core.HLevel.{is_prop→PathP}
use Rattle.wasm_values.specs.References.{i31}
use Rattle.wasm_values.specs.declared.references.AnyRef.{AnyRef}
use Rattle.spec_machine.specs.Values.{any_by, any_of}

-- a reference to data of WebAssembly is its number
any_is : (x y : AnyRef) → x.value ≡ y.value → x ≡ y
any_is x y e =
    λ i. record { value = e i; small = is_prop→PathP (λ j. e j < 2 ^ 31) (λ j. le_prop) x.small y.small i }

not_both : true ≡ false → ⊥
not_both e = cc

any_given_by : (n : ℕ) (b : Bool) (e : nat_lt n (2 ^ 31) ≡ b) (a : AnyRef) → b ≡ true → i31 a ≡ n → any_by n b e ≡ Some a
any_given_by n true e a t h = ap Some (any_is _ a (sym h))
any_given_by n false e a t h = absurd (not_both (sym t))

pub any_given : (n : ℕ) (a : AnyRef) → n < 2 ^ 31 → i31 a ≡ n → any_of n ≡ Some a
any_given n a l h = any_given_by n _ refl a (lt-ltb n (2 ^ 31) l) h

any_refused_by : (n : ℕ) (b : Bool) (e : nat_lt n (2 ^ 31) ≡ b) → b ≡ false → any_by n b e ≡ None
any_refused_by n true e f = absurd (not_both f)
any_refused_by n false e f = refl

pub any_refused : (n : ℕ) → 2 ^ 31 ≤ n → any_of n ≡ None
any_refused n l = any_refused_by n _ refl (le-ltb n (2 ^ 31) l)
