-- What a reader of the grammar answers: the item that is a front of the bytes left, or none where no front is one.
-- This project's own
use Rattle.std.specs.Prelude.{◌≡◌, ℕ, ◌+◌, List, ◌++◌, length, Option, Some, None}
use Rattle.wasm_leb.specs.Places.{Place}

-- these bytes lie between two places
pub record Lie (old : Place) (between : List ℕ) (new : Place) : Type 0 where
  pub left : old.left ≡ between ++ new.left
  pub at : new.at ≡ old.at + length between

-- an item of a grammar, which says what bytes spell
abbrev pub ReadsItem : {A : Type 0} → (List ℕ → A → Type 0) → Place → Option A → Place → Type 0
ReadsItem {A = A} Spells old (Some x) new = (item : List ℕ) × Spells item x × Lie old item new
ReadsItem {A = A} Spells old None new = (item rest : List ℕ) → old.left ≡ item ++ rest → (x : A) → Spells item x → ⊥
