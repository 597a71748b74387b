-- How often blocks are named.
use Rattle.std.specs.Prelude.{ℕ, ◌+◌, List, min, fold, slice_set, slice_index_or}

-- the counts when a block is named once more: none passes 255, and a block that is not there has none
abbrev pub with_one : List ℕ → ℕ → List ℕ
with_one counts b = slice_set counts b (min 255 (slice_index_or counts b 0 + 1))

-- the counts when more blocks are named
abbrev pub counted : List ℕ → List ℕ → List ℕ
counted counts named = fold with_one counts named
