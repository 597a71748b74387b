-- The ids of stores, by their numbers.
use Rattle.std.proofs.Common.{◌≡◌, ℕ, ◌^◌, ◌<◌, ◌≤◌, Bool, true, false, Some, None, refl, ap, sym, subst}
use Rattle.std.specs.Prelude.{nat_lt, nat_le}
use Rattle.std.specs.Coded.{le_prop}
use Rattle.std.specs.Int.NonZero.{non_zero_u64_get}
use Rattle.std.specs.declared.num.NonZeroU64.{NonZeroU64}
use Rattle.std.proofs.lemmas.Bool.{lt-ltb, le-leb, lt-leb}
use mathlib.Core.HLevel.{is_prop→PathP}
use Rattle.wasm_values.specs.StoreIds.{number}
use Rattle.wasm_values.specs.declared.store_id.StoreId.{StoreId}
use Rattle.tape_values.specs.StoreNumbers.{store_id_by, store_id_of}

-- an id is its number
non_zero_is : (x y : NonZeroU64) → x.value ≡ y.value → x ≡ y
non_zero_is x y e =
    λ i. record { value = e i; ok = is_prop→PathP (λ j. 0 < e j) (λ j. le_prop) x.ok y.ok i }

id_is : (x y : StoreId) → number x ≡ number y → x ≡ y
id_is x y e =
    let raw : x.raw ≡ y.raw = non_zero_is x.raw y.raw e in
    λ i. record { raw = raw i; within = is_prop→PathP (λ j. non_zero_u64_get (raw j) ≤ 2 ^ 63) (λ j. le_prop) x.within y.within i }

not_both : true ≡ false → ⊥
not_both e = cc

given_by : (n : ℕ) (above below : Bool) (p : nat_lt 0 n ≡ above) (q : nat_le n (2 ^ 63) ≡ below) (id : StoreId) → above ≡ true → below ≡ true
    → number id ≡ n → store_id_by n above below p q ≡ Some id
given_by n true true p q id a b h = ap (λ x. Some x) (id_is _ id (sym h))
given_by n true false p q id a b h = absurd (not_both (sym b))
given_by n false below p q id a b h = absurd (not_both (sym a))

pub id_given : (n : ℕ) (id : StoreId) → number id ≡ n → store_id_of n ≡ Some id
id_given n id h =
    let some : 0 < number id = id.raw.ok in
    let small : number id ≤ 2 ^ 63 = id.within in
    given_by n _ _ refl refl id (lt-ltb 0 n (subst (λ (m : ℕ). 0 < m) h some)) (le-leb n (2 ^ 63) (subst (λ (m : ℕ). m ≤ 2 ^ 63) h small)) h

pub id_back : (id : StoreId) → store_id_of (number id) ≡ Some id
id_back id = id_given (number id) id refl

refused_by : (n : ℕ) (above below : Bool) (p : nat_lt 0 n ≡ above) (q : nat_le n (2 ^ 63) ≡ below) → below ≡ false → store_id_by n above below p q ≡ None
refused_by n true true p q b = absurd (not_both b)
refused_by n true false p q b = refl
refused_by n false below p q b = refl

pub id_refused : (n : ℕ) → 2 ^ 63 < n → store_id_of n ≡ None
id_refused n l = refused_by n _ _ refl refl (lt-leb n (2 ^ 63) l)
