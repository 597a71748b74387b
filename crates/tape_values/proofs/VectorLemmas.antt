-- The bytes of a vector, the highest first.
use Rattle.std.proofs.Common.{◌≡◌, ℕ, zero, suc, ◌+◌, ◌*◌, ◌/◌, ◌%◌, ◌^◌, ◌<◌, Ok, refl, arith}
use Rattle.std.specs.Prelude.{slice_index}
use Rattle.std.specs.Int.{w128, byte_at, bytes_high_first, to_be_bytes, from_be_bytes}
use Rattle.std.proofs.Math.Nat.{div-div-eq-div-mul}
use Rattle.hex.specs.Hex.{decode_sized, encode_lower}
use Rattle.hex.proofs.HexLemmas.{decode_sized-encode_lower}

byte_at-small : (k n : ℕ) → byte_at k n < 256
byte_at-small zero n = omega arith
byte_at-small (suc k) n = omega arith

bytes-small : (k n i : ℕ) → slice_index (bytes_high_first k n) i < 256
bytes-small zero n i = omega arith
bytes-small (suc k) n zero = byte_at-small k n
bytes-small (suc k) n (suc i) = bytes-small k n i

byte_and_rest : (n p : ℕ) → n / p ≡ n / p % 256 + n / (p * 256) * 256
byte_and_rest n p = omega (arith, div-div-eq-div-mul n p 256)

-- eight digits of a number to the base 256, and what is left above them
low_digits : (a b c d e f g h n p q r s t u v w : ℕ) → n ≡ a + p * 256 → p ≡ b + q * 256 → q ≡ c + r * 256 → r ≡ d + s * 256
    → s ≡ e + t * 256 → t ≡ f + u * 256 → u ≡ g + v * 256 → v ≡ h + w * 256
    → a + b * 256 + c * 256 ^ 2 + d * 256 ^ 3 + e * 256 ^ 4 + f * 256 ^ 5 + g * 256 ^ 6 + h * 256 ^ 7 + w * 256 ^ 8 ≡ n
low_digits a b c d e f g h n p q r s t u v w at_0 at_1 at_2 at_3 at_4 at_5 at_6 at_7 = omega arith

both_halves : (a b c d e f g h i j k l m o p q n w : ℕ)
    → a + b * 256 + c * 256 ^ 2 + d * 256 ^ 3 + e * 256 ^ 4 + f * 256 ^ 5 + g * 256 ^ 6 + h * 256 ^ 7 + w * 256 ^ 8 ≡ n
    → i + j * 256 + k * 256 ^ 2 + l * 256 ^ 3 + m * 256 ^ 4 + o * 256 ^ 5 + p * 256 ^ 6 + q * 256 ^ 7 + 0 * 256 ^ 8 ≡ w
    → q * 256 ^ 15 + p * 256 ^ 14 + o * 256 ^ 13 + m * 256 ^ 12 + l * 256 ^ 11 + k * 256 ^ 10 + j * 256 ^ 9 + i * 256 ^ 8
    + h * 256 ^ 7 + g * 256 ^ 6 + f * 256 ^ 5 + e * 256 ^ 4 + d * 256 ^ 3 + c * 256 ^ 2 + b * 256 ^ 1 + a ≡ n
both_halves a b c d e f g h i j k l m o p q n w low high = omega arith

vector_back : (n : ℕ) → n < 2 ^ 128 → from_be_bytes w128 (to_be_bytes w128 n) ≡ n
vector_back n fits =
    let first : n ≡ n % 256 + n / 256 * 256 = omega arith in
    let last : n / 256 ^ 15 ≡ n / 256 ^ 15 % 256 + 0 * 256 = omega arith in
    both_halves _ _ _ _ _ _ _ _ _ _ _ _ _ _ _ _ n (n / 256 ^ 8)
    (low_digits _ _ _ _ _ _ _ _ n _ _ _ _ _ _ _ (n / 256 ^ 8) first (byte_and_rest n 256) (byte_and_rest n (256 ^ 2)) (byte_and_rest n (256 ^ 3))
    (byte_and_rest n (256 ^ 4)) (byte_and_rest n (256 ^ 5)) (byte_and_rest n (256 ^ 6)) (byte_and_rest n (256 ^ 7)))
    (low_digits _ _ _ _ _ _ _ _ (n / 256 ^ 8) _ _ _ _ _ _ _ 0 (byte_and_rest n (256 ^ 8)) (byte_and_rest n (256 ^ 9)) (byte_and_rest n (256 ^ 10))
    (byte_and_rest n (256 ^ 11)) (byte_and_rest n (256 ^ 12)) (byte_and_rest n (256 ^ 13)) (byte_and_rest n (256 ^ 14)) last)

pub from_be_bytes-to_be_bytes_16 : (n : ℕ) → n < 2 ^ 128 → from_be_bytes w128 (to_be_bytes w128 n) ≡ n
from_be_bytes-to_be_bytes_16 n fits = vector_back n fits

pub digits_back : (n : ℕ) → decode_sized (encode_lower (to_be_bytes w128 n)) 16 ≡ Ok (to_be_bytes w128 n)
digits_back n = decode_sized-encode_lower (to_be_bytes w128 n) 16 refl (bytes-small 16 n)
