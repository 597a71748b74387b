use Rattle.std.proofs.Common.{length}
use Rattle.wasm_module.proofs.ExportNames.{AreDistinct}
use Rattle.wasm_module.proofs.exports.exports_by_name.Given as goal

abbrev pub invariant-loop-export : goal.invariant-loop-export
invariant-loop-export l = AreDistinct l.exports l.rest l.number l.by_name

abbrev pub decreases-loop-export : goal.decreases-loop-export
decreases-loop-export l = length l.rest
