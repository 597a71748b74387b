use Rattle.std.proofs.Common.{refl, false}
use Rattle.code_straight.specs.Frames.{topmost}
use Rattle.code_stack.specs.Layers.{frame_of}
use Rattle.code_leaps.specs.declared.leaps.Aim.TheVariants as aim
use Rattle.code_leaps.proofs.LeapLemmas.{aims_block, leap_block}
use Rattle.code_leaps.proofs.entries.enter_first.Goals as goal

pub returns-in-Block-clause-leaps : goal.returns-in-Block-clause-leaps
returns-in-Block-clause-leaps c =
    leap_block c.args.activation.now c.args.code.now c.in_ok-instr.rest.now c.in_ok-instr.instr.now
    c.in_ok-instr.ensures.cases.0 c.args.layers.now c.enter_block.new.layers c.args.operands.now
    c.enter_block.new.operands c.args.height c.args.height (aim.Block c.in-Block.index) false
    (aims_block (frame_of c.args.activation.now) c.in_ok-instr.instr.now
    (topmost c.args.height c.args.operands.now.last) c.in-Block.index c.in-Block.is) c.in-Block.index refl
    c.enter_block.result c.enter_block.ensures.reaches
