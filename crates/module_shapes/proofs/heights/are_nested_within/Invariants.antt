use Rattle.std.proofs.Common.{length}
use Rattle.module_shapes.proofs.HeightLemmas.{AreHeights}
use Rattle.module_shapes.proofs.heights.are_nested_within.Given as goal

abbrev pub invariant-loop-block : goal.invariant-loop-block
invariant-loop-block l = AreHeights l.most l.blocks l.rest l.heights

abbrev pub decreases-loop-block : goal.decreases-loop-block
decreases-loop-block l = length l.rest
