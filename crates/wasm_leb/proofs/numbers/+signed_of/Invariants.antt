use Rattle.std.proofs.Common.{length}
use Rattle.wasm_leb.proofs.numbers.+signed_of.Given as goal

abbrev pub decreases-signed_of : goal.decreases-signed_of
decreases-signed_of l = length l.left.now
