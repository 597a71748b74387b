-- What holds of each member of a list; this project's own.
use Rattle.std.specs.Prelude.{◌≡◌, ℕ, List, slice_get, Some}

-- each member of a list
abbrev pub Each : {A : Type 0} → List A → (A → Type 0) → Type 0
Each xs P = (n : ℕ) (a : _) → slice_get xs n ≡ Some a → P a
