-- Bitwise operators stay within 64 bits.
use Rattle.std.proofs.Common.{ℕ, ◌^◌, ◌<◌, bit_or}
use Rattle.std.specs.Prelude.{bit_xor}
use Rattle.std.proofs.lemmas.Nat.{or_lt, xor_lt}

pub or_64 : (x y : ℕ) → x < 2 ^ 64 → y < 2 ^ 64 → bit_or x y < 2 ^ 64
or_64 x y h k = or_lt 64 x y h k

pub xor_64 : (x y : ℕ) → x < 2 ^ 64 → y < 2 ^ 64 → bit_xor x y < 2 ^ 64
xor_64 x y h k = xor_lt 64 x y h k
