use Rattle.std.proofs.Common.{arith, length, ap, add-zero}
use Rattle.code_stack.proofs.DropLemmas.{dropped_none, dropped_more}
use Rattle.code_stack.proofs.stack.Stack+Layer.drop_blocks.Goals as goal

pub blocks-2-init : goal.blocks-2-init
blocks-2-init c = record { dropped = dropped_none _; most = omega arith; length = add-zero _ }

pub blocks-2-preserved : goal.blocks-2-preserved
blocks-2-preserved c = record {
  dropped = dropped_more _ _ _ _ _ c.blocks-2.invariant.dropped c.in-Some.ensures;
  most = omega arith;
  length = omega (arith, ap length c.in-Some.ensures, c.blocks-2.invariant.length);
}
