use Rattle.std.proofs.Common.{◌≡◌, length, flat_map}
use Rattle.wasm_syntax.specs.Shapes.{names}
use Rattle.module_shapes.specs.Counts.{counted}
use Rattle.module_shapes.proofs.counts.count_all.Given as goal

abbrev pub invariant-loop-rest : goal.invariant-loop-rest
invariant-loop-rest l = counted l.counts (flat_map names l.rest) ≡ counted l.fn.counts (flat_map names l.blocks)

abbrev pub decreases-loop-rest : goal.decreases-loop-rest
decreases-loop-rest l = length l.rest
