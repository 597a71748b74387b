-- The first place of a buffer.
use Rattle.std.proofs.Common.{arith, ◌≡◌, ℕ, ◌<◌, List, [], ◌∷◌, ◌++◌, length, take, slice_set, Some, ap}

-- one byte is taken from the front and put at the first place
pub first_taken : (left buffer rest : List ℕ) (b : ℕ) → 0 < length buffer → left ≡ b ∷ rest → (Some left) ≡ (Some (take 1 (slice_set buffer 0 b) ++ rest))
first_taken left [] rest b h e = absurd (omega arith)
first_taken left (x ∷ xs) rest b h e = ap (λ l. Some l) e
