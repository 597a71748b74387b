use Rattle.std.proofs.Common.{◌≡◌, List, ℕ, Bor, take, map, string_bytes}
use Rattle.binary_bytes.proofs.words.owned.Given as goal

abbrev pub invariant-loop-piece : goal.invariant-loop-piece
invariant-loop-piece l = map string_bytes l.words.items ≡ map (λ (x : Bor (List ℕ)). x.now) (take l.piece-index l.pieces)
