use Rattle.code_leaps.proofs.LeapLemmas.{leap_block, leap_loop, leap_branch}
use Rattle.code_leaps.proofs.leaps.leap.Goals as goal

pub returns-in-Block-clause-leaps : goal.returns-in-Block-clause-leaps
returns-in-Block-clause-leaps c =
    leap_block c.args.activation.now c.args.code.now c.in_ok-instr.rest.now c.in_ok-instr.instr.now c.in_ok-instr.ensures.cases.0
    c.args.layers.now c.enter_block.new.layers c.args.operands.now c.enter_block.new.operands c.args.height
    c.in_ok-aimed.aimed.height c.in_ok-aimed.aimed.aim c.args.passes (rw c.last.ensures at c.in_ok-aimed.ensures.aims)
    c.in-Block.index c.in-Block.is c.enter_block.result c.enter_block.ensures.reaches

pub returns-in-Loop-clause-leaps : goal.returns-in-Loop-clause-leaps
returns-in-Loop-clause-leaps c =
    leap_loop c.args.activation.now c.args.code.now c.in_ok-instr.rest.now c.in_ok-instr.instr.now c.in_ok-instr.ensures.cases.0
    c.args.layers.now c.enter_loop.new.layers c.args.operands.now c.enter_loop.new.operands c.args.height
    c.in_ok-aimed.aimed.height c.in_ok-aimed.aimed.aim c.args.passes (rw c.last.ensures at c.in_ok-aimed.ensures.aims)
    c.in-Loop.index c.in-Loop.is c.enter_loop.result c.enter_loop.ensures.begins c.enter_loop.ensures.passing

pub returns-in-Branch-clause-leaps : goal.returns-in-Branch-clause-leaps
returns-in-Branch-clause-leaps c =
    leap_branch c.args.activation.now c.args.code.now c.in_ok-instr.rest.now c.in_ok-instr.instr.now c.in_ok-instr.ensures.cases.0
    c.args.layers.now c.branch_out.new.layers c.args.operands.now c.branch_out.new.operands c.args.height
    c.in_ok-aimed.aimed.height c.in_ok-aimed.aimed.aim c.args.passes (rw c.last.ensures at c.in_ok-aimed.ensures.aims)
    c.in-Branch.label c.in-Branch.is c.branch_out.result c.branch_out.ensures.reaches
