-- Integers in the format LEB128, of a number of bits: as a grammar, and as they are read.
-- WebAssembly core specification, "Binary Format, Values, Integers"
use Rattle.std.specs.Prelude.{◌≡◌, ℕ, ◌+◌, ◌-◌, ◌*◌, ◌^◌, ◌<◌, ◌≤◌, ◌⊎◌, ℤ, pos, ◌+ℤ◌, ◌-ℤ◌, ◌*ℤ◌, List, [], ◌∷◌, Option, Some, None, option_map, nat_lt, nat_le, if◌then◌else◌}
use Rattle.wasm_leb.specs.Places.{Place, place}

-- uN: a byte below 128 is the last, and stands for itself, within the bits. One from 128 on has the low seven bits, and
-- the bytes behind it stand for the rest. Zeros in front are allowed.
abbrev pub IsUnsigned : ℕ → List ℕ → ℕ → Type 0
IsUnsigned bits [] n = ⊥
IsUnsigned bits (b ∷ []) n = (b < 128) × (b < 2 ^ bits) × (n ≡ b)
IsUnsigned bits (b ∷ c ∷ bs) n =
    (128 ≤ b) × (7 < bits) × (high : ℕ) × IsUnsigned (bits - 7) (c ∷ bs) high × (n ≡ (b - 128) + 128 * high)

-- what a last byte stands for in sN: from 64 on it is less by 128
abbrev pub IsSignedByte : ℕ → ℕ → ℤ → Type 0
IsSignedByte bits b z =
    ((b < 64) × (b < 2 ^ (bits - 1)) × (z ≡ pos b))
    ⊎ ((64 ≤ b) × (b < 128) × (128 ≤ b + 2 ^ (bits - 1)) × (z ≡ pos b -ℤ pos 128))

-- sN: as uN, with a sign in the last byte
abbrev pub IsSigned : ℕ → List ℕ → ℤ → Type 0
IsSigned bits [] z = ⊥
IsSigned bits (b ∷ []) z = IsSignedByte bits b z
IsSigned bits (b ∷ c ∷ bs) z =
    (128 ≤ b) × (7 < bits) × (high : ℤ) × IsSigned (bits - 7) (c ∷ bs) high × (z ≡ pos (b - 128) +ℤ pos 128 *ℤ high)

-- the low seven bits in front of the rest of the number
abbrev pub with_low : ℕ → ℕ × Place → ℕ × Place
with_low b high = ((b - 128) + 128 * high.0, high.1)

-- the number of so many bits at the front of the bytes, and where it ends
abbrev pub unsigned_at : ℕ → ℕ → List ℕ → Option (ℕ × Place)
unsigned_at bits at [] = None
unsigned_at bits at (b ∷ bs) =
    if nat_lt b 128 then (if nat_lt b (2 ^ bits) then Some (b, place (at + 1) bs) else None)
    else (if nat_lt 7 bits then option_map (with_low b) (unsigned_at (bits - 7) (at + 1) bs) else None)

abbrev pub signed_byte : ℕ → ℕ → Option ℤ
signed_byte bits b =
    if nat_lt b 64 then (if nat_lt b (2 ^ (bits - 1)) then Some (pos b) else None)
    else (if nat_le 128 (b + 2 ^ (bits - 1)) then Some (pos b -ℤ pos 128) else None)

abbrev pub with_low_signed : ℕ → ℤ × Place → ℤ × Place
with_low_signed b high = (pos (b - 128) +ℤ pos 128 *ℤ high.0, high.1)

abbrev pub signed_at : ℕ → ℕ → List ℕ → Option (ℤ × Place)
signed_at bits at [] = None
signed_at bits at (b ∷ bs) =
    if nat_lt b 128 then option_map (λ z. (z, place (at + 1) bs)) (signed_byte bits b)
    else (if nat_lt 7 bits then option_map (with_low_signed b) (signed_at (bits - 7) (at + 1) bs) else None)

unfoldable pub unsigned : ℕ → Place → Option (ℕ × Place)
unsigned bits p = unsigned_at bits p.at p.left

unfoldable pub signed : ℕ → Place → Option (ℤ × Place)
signed bits p = signed_at bits p.at p.left
