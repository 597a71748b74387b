-- Where reading stands, and how it goes on: single bytes, and so many bytes. This project's own; the core specification
-- writes a grammar without an order of reading.
use Rattle.std.specs.Prelude.{◌≡◌, ℕ, ◌+◌, ◌<◌, ◌≤◌, List, [], ◌∷◌, length, take, drop, Option, Some, None, nat_le, if◌then◌else◌}
use Rattle.std.specs.Borrow.{Bor}

-- how many bytes lie before, and the bytes that are left
pub record Place : Type 0 where
  pub at : ℕ
  pub left : List ℕ

abbrev pub place : ℕ → List ℕ → Place
place at left = record { at = at; left = left }

-- so many bytes further on
abbrev pub further : ℕ → Place → Place
further n p = place (p.at + n) (drop n p.left)

-- one byte
abbrev pub first : ℕ → List ℕ → Option (ℕ × Place)
first at [] = None
first at (b ∷ bs) = Some (b, place (at + 1) bs)

abbrev pub byte : Place → Option (ℕ × Place)
byte p = first p.at p.left

-- so many bytes
abbrev pub bytes : ℕ → Place → Option (List ℕ × Place)
bytes n p = if nat_le n (length p.left) then Some (take n p.left, further n p) else None

-- What a reader answers and where it then stands: what the definition gives, or nothing, and it stands where it stood.
abbrev pub Reads : {A : Type 0} → Option (A × Place) → Place → Option A → Place → Type 0
Reads due old (Some x) new = due ≡ Some (x, new)
Reads due old None new = (due ≡ None) × (new ≡ old)

-- the same, where the answer is lent
abbrev pub ReadsBytes : Option (List ℕ × Place) → Place → Option (Bor (List ℕ)) → Place → Type 0
ReadsBytes due old (Some x) new = due ≡ Some (x.now, new)
ReadsBytes due old None new = (due ≡ None) × (new ≡ old)

-- so many bytes as a place of their own
abbrev pub ReadsPart : ℕ → Place → Option Place → Place → Type 0
ReadsPart n old (Some part) new = (n ≤ length old.left) × (part ≡ place old.at (take n old.left)) × (new ≡ further n old)
ReadsPart n old None new = (length old.left < n) × (new ≡ old)

-- the same as ReadsBytes, but for where it stands if there is nothing
abbrev pub ReadsText : Option (List ℕ × Place) → Option (Bor (List ℕ)) → Place → Type 0
ReadsText due (Some x) new = due ≡ Some (x.now, new)
ReadsText due None new = due ≡ None
