-- Numbers as words: a sign, or none, and then decimal digits. This project's own.
use Rattle.std.specs.Prelude.{ℕ, ◌+◌, ◌-◌, ◌^◌, ℤ, pos, neg_ℤ, ◌&&◌, nat_lt, List, length, drop, Bool, if◌then◌else◌, Option, Some, None, option_map}
use Rattle.std.specs.Int.{Width, cast_signed}
use Rattle.std.specs.Option.{option_or}
use Rattle.std.specs.Str.{all_ascii_digits}
use Rattle.std.specs.Str.Parse.{digits_value, starts_with_minus, without_leading_plus}

-- one digit or more, and nothing else
abbrev pub is_numeral : List ℕ → Bool
is_numeral digits = nat_lt 0 (length digits) && all_ascii_digits digits

-- the number that digits write, where it is below a bound
abbrev pub below : ℕ → List ℕ → Option ℕ
below bound digits =
    if is_numeral digits && nat_lt (digits_value 10 digits) bound then Some (digits_value 10 digits) else None

-- a number from 0 on that has so many bits; a plus may stand before it
abbrev pub unsigned : ℕ → List ℕ → Option ℕ
unsigned count word = below (2 ^ count) (without_leading_plus word)

-- a signed number of so many bits
abbrev pub signed : ℕ → List ℕ → Option ℤ
signed count word =
    if starts_with_minus word
    then option_map (λ n. neg_ℤ (pos n)) (below (2 ^ (count - 1) + 1) (drop 1 word))
    else option_map pos (below (2 ^ (count - 1)) (without_leading_plus word))

-- an integer of a width, which has so many bits: a signed number, or else one from 0 on, which stands for the signed number
-- of the same bits
abbrev pub integer : Width → ℕ → List ℕ → Option ℤ
integer w count word = option_or (signed count word) (option_map (cast_signed w) (unsigned count word))
