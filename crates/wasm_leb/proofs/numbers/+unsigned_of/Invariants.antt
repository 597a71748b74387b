use Rattle.std.proofs.Common.{length}
use Rattle.wasm_leb.proofs.numbers.+unsigned_of.Given as goal

abbrev pub decreases-unsigned_of : goal.decreases-unsigned_of
decreases-unsigned_of l = length l.left.now
