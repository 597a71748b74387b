-- Numbers with sign that are below zero, and those that are not.
use Rattle.std.proofs.Common.{◌≡◌, ℕ, ℤ, pos, negsuc, ◌<ℤ◌, Some, None, arith, refl, ap}
use Rattle.std.proofs.lemmas.Int.{ints}
use Rattle.binary_types.specs.Types.{whole}

pub whole_below : (z : ℤ) → z <ℤ pos 0 → whole z ≡ None
whole_below (pos n) h = absurd (omega (arith, ints))
whole_below (negsuc n) h = refl

pub whole_pos : (z : ℤ) (n : ℕ) → z ≡ pos n → whole z ≡ Some n
whole_pos z n e = ap whole e
