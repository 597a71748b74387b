-- Powers of two, by which the bits of a number are bounded.
use Rattle.std.proofs.Common.{◌≡◌, ℕ, ◌+◌, ◌-◌, ◌*◌, ◌^◌, ◌<◌, ◌≤◌, ◌%◌, true, nat_lt, nat_le, arith, sym, ◌∙◌, ap}
use Rattle.std.proofs.Math.Nat.{pow-le-pow_right}
use Rattle.std.proofs.lemmas.Bool.{lt-ltb, le-leb}
use Rattle.std.proofs.lemmas.Nat.{pow-add, one_shl}

-- seven bits hold each number below 128
pub at_least_seven : (bits : ℕ) → 7 ≤ bits → 128 ≤ 2 ^ bits
at_least_seven bits h = pow-le-pow_right {n = 2} (omega arith) h

pub within_seven : (bits last : ℕ) → 7 ≤ bits → last < 128 → true ≡ nat_lt last (2 ^ bits)
within_seven bits last h k = let p : 128 ≤ 2 ^ bits = at_least_seven bits h in sym (lt-ltb last (2 ^ bits) (omega arith))

pub shifted_one : (bits : ℕ) → bits < 7 → (1 * 2 ^ bits) % 2 ^ 32 ≡ 2 ^ bits
shifted_one bits h = one_shl bits 32 (omega arith)

-- a group of seven bits more
pub power_by_groups : (bits : ℕ) → 7 < bits → 2 ^ bits ≡ 128 * 2 ^ (bits - 7)
power_by_groups bits h =
    let e : bits ≡ 7 + (bits - 7) = omega arith in
    ap (λ (k : ℕ). 2 ^ k) e ∙ pow-add 2 7 (bits - 7)

-- the greatest number of so many bits, whose low seven are a group, has 64 bits
pub fits_64 : (bits low high : ℕ) → 7 < bits → bits ≤ 64 → low < 128 → high < 2 ^ (bits - 7) → low + 128 * high < 2 ^ bits
fits_64 bits low high h k l m = let e : 2 ^ bits ≡ 128 * 2 ^ (bits - 7) = power_by_groups bits h in omega arith

pub at_most_64 : (bits : ℕ) → bits ≤ 64 → 2 ^ bits ≤ 2 ^ 64
at_most_64 bits h = pow-le-pow_right {n = 2} (omega arith) h

pub at_most_56 : (bits : ℕ) → bits ≤ 56 → 2 ^ bits ≤ 2 ^ 56
at_most_56 bits h = pow-le-pow_right {n = 2} (omega arith) h

-- the sign as the last bit but those of the groups below
pub half_by_groups : (bits : ℕ) → 7 < bits → 2 ^ (bits - 1) ≡ 128 * 2 ^ (bits - 7 - 1)
half_by_groups bits h =
    let e : bits - 1 ≡ 7 + (bits - 7 - 1) = omega arith in
    ap (λ (k : ℕ). 2 ^ k) e ∙ pow-add 2 7 (bits - 7 - 1)

pub sign_within_seven : (bits last : ℕ) → 7 ≤ bits → 64 ≤ last → true ≡ nat_le 128 (last + 2 ^ (bits - 1))
sign_within_seven bits last h k =
    let six : 6 ≤ bits - 1 = omega arith in
    let p : 64 ≤ 2 ^ (bits - 1) = pow-le-pow_right {n = 2} (omega arith) six in
    sym (le-leb 128 (last + 2 ^ (bits - 1)) (omega arith))
