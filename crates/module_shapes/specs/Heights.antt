-- How deep the blocks behind a block are nested.
use Rattle.std.specs.Prelude.{ℕ, suc, ◌-◌, List, [], ◌∷◌, Option, Some, None, max, nat_lt, slice_get, if◌then◌else◌, option_and_then}

-- the height of block b, where it stands behind block `own`, of the heights of the blocks behind `own`
abbrev pub height_of : ℕ → List ℕ → ℕ → Option ℕ
height_of own heights b = if nat_lt own b then slice_get heights (b - suc own) else None

-- the greatest of a number and the heights of blocks, where all stand behind block `own`
abbrev pub over_all : ℕ → List ℕ → ℕ → List ℕ → Option ℕ
over_all own heights tallest [] = Some tallest
over_all own heights tallest (b ∷ bs) =
    option_and_then (λ height. over_all own heights (max tallest height) bs) (height_of own heights b)
