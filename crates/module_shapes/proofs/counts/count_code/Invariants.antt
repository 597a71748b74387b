use Rattle.std.proofs.Common.{◌≡◌, length, flat_map}
use Rattle.wasm_syntax.specs.Instructions.{blocks_named}
use Rattle.module_shapes.specs.Counts.{counted}
use Rattle.module_shapes.proofs.counts.count_code.Given as goal

abbrev pub invariant-loop-rest : goal.invariant-loop-rest
invariant-loop-rest l = counted l.counts (flat_map blocks_named l.rest) ≡ counted l.fn.counts (flat_map blocks_named l.code)

abbrev pub decreases-loop-rest : goal.decreases-loop-rest
decreases-loop-rest l = length l.rest
