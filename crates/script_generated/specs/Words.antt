-- What the words of the program ask for. This project's own.
use Rattle.std.specs.Prelude.{ℕ, ◌+◌, ◌-◌, ◌*◌, ◌≤◌, Bool, ◌&&◌, ◌==◌, nat_le, List, [], ◌∷◌, Option, Some, None, option_map, codes, if◌then◌else◌}
use Rattle.std.specs.Str.{bytes_eq}
use Rattle.script_generated.specs.declared.words.Origin.{Origin}
use Rattle.script_generated.specs.declared.words.Origin.TheVariants.{Input, Generated}

abbrev pub is_digit : ℕ → Bool
is_digit byte = nat_le 48 byte && nat_le byte 57

-- the number that digits spell behind those of n, where it is at most 1,000
abbrev pub number_from : ℕ → List ℕ → Option ℕ
number_from n [] = Some n
number_from n (byte ∷ more) =
    if is_digit byte && nat_le (n * 10 + (byte - 48)) 1000 then number_from (n * 10 + (byte - 48)) more else None

-- the number from 1 to 1,000 that this spells in decimal, without a leading zero
abbrev pub calls_of : List ℕ → Option ℕ
calls_of [] = None
calls_of (byte ∷ more) = if byte == 48 then None else number_from 0 (byte ∷ more)

-- a session that is read, for the word `run`; one of so many calls that is generated, for `gen` and their number; nothing
-- for all other words
abbrev pub origin_of : List (List ℕ) → Option Origin
origin_of [] = None
origin_of (word ∷ []) = if bytes_eq word (codes "run") then Some Input else None
origin_of (word ∷ number ∷ []) =
    if bytes_eq word (codes "gen") then option_map Generated (calls_of number) else None
origin_of (word ∷ number ∷ other ∷ rest) = None

-- there are at most 1,000 calls
abbrev pub IsWithin : Origin → Type 0
IsWithin Input = Unit {0}
IsWithin (Generated n) = n ≤ 1000
