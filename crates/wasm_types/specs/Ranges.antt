-- Ranges of a list.
use Rattle.std.specs.Prelude.{ℕ, ◌+◌, ◌-◌, List, [], ◌∷◌, ◌++◌, length, take, drop, replicate, Bool, nat_le}

-- `len` items from the place `at` on are there; the empty range at the end is one, and past the end is none
-- WebAssembly core specification, "Execution, memory instructions": a range is tested with length zero too
abbrev pub is_range : {A : Type 0} → ℕ → ℕ → List A → Bool
is_range at len items = nat_le (at + len) (length items)

-- these items
abbrev pub range_of : {A : Type 0} → ℕ → ℕ → List A → List A
range_of at len items = take len (drop at items)

-- the list with other items from the place `at` on, and no other changed
abbrev pub with_range : {A : Type 0} → ℕ → List A → List A → List A
with_range at piece items = take at items ++ piece ++ drop (at + length piece) items

-- a list filled up to a size
abbrev pub padded : {A : Type 0} → ℕ → A → List A → List A
padded size blank items = items ++ replicate (size - length items) blank

-- the front of a list that was written to: up to the last place that was ever written, with the blank in places before it
-- that were not
abbrev pub written : {A : Type 0} → A → ℕ → List A → List A → List A
written blank at [] items = items
written blank at (x ∷ piece) items = with_range at (x ∷ piece) (padded at blank items)
