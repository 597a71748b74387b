use Rattle.std.proofs.Common.{◌-◌}
use Rattle.code_straight.specs.Frames.{topmost}
use Rattle.code_stack.specs.Layers.{frame_of}
use Rattle.code_leaps.proofs.LeapLemmas.{aims_block, aims_loop, aims_br, aims_if, aims_br_if, aims_br_table, second_wanted, first_wanted}
use Rattle.code_leaps.proofs.leaps.aim_at.Goals as goal

pub returns-in-Block-clause-aims : goal.returns-in-Block-clause-aims
returns-in-Block-clause-aims c =
    aims_block (frame_of c.args.activation.now) c.args.instr (topmost c.args.height c.args.operands.now)
    c.in-Block.index c.in-Block.is

pub returns-in-Loop-clause-aims : goal.returns-in-Loop-clause-aims
returns-in-Loop-clause-aims c =
    aims_loop (frame_of c.args.activation.now) c.args.instr (topmost c.args.height c.args.operands.now)
    c.in-Loop.index c.in-Loop.is

pub returns-in-Br-clause-aims : goal.returns-in-Br-clause-aims
returns-in-Br-clause-aims c =
    aims_br (frame_of c.args.activation.now) c.args.instr (topmost c.args.height c.args.operands.now)
    c.in-Br.label c.in-Br.is

pub returns-then-wanted-eq0-clause-aims : goal.returns-then-wanted-eq0-clause-aims
returns-then-wanted-eq0-clause-aims c =
    aims_if (frame_of c.args.activation.now) c.args.instr (topmost c.args.height c.args.operands.now)
    c.in_ok-wanted-in-If.wanted (topmost (c.args.height - 1) c.args.operands.now) c.in_ok-wanted-in-If.ensures.takes c.in-If.first
    c.in-If.second c.in-If.second c.in-If.is
    (second_wanted c.in_ok-wanted-in-If.wanted c.in-If.first c.in-If.second c.if-wanted-eq0.true)

pub returns-else-wanted-eq0-clause-aims : goal.returns-else-wanted-eq0-clause-aims
returns-else-wanted-eq0-clause-aims c =
    aims_if (frame_of c.args.activation.now) c.args.instr (topmost c.args.height c.args.operands.now)
    c.in_ok-wanted-in-If.wanted (topmost (c.args.height - 1) c.args.operands.now) c.in_ok-wanted-in-If.ensures.takes c.in-If.first
    c.in-If.second c.in-If.first c.in-If.is
    (first_wanted c.in_ok-wanted-in-If.wanted c.in-If.first c.in-If.second c.if-wanted-eq0.false)

pub returns-else-taken-eq0-clause-aims : goal.returns-else-taken-eq0-clause-aims
returns-else-taken-eq0-clause-aims c =
    aims_br_if (frame_of c.args.activation.now) c.args.instr (topmost c.args.height c.args.operands.now)
    c.in_ok-taken-in-BrIf.taken (topmost (c.args.height - 1) c.args.operands.now) c.in_ok-taken-in-BrIf.ensures.takes c.in-BrIf.label
    c.in-BrIf.is c.if-taken-eq0.false

pub returns-in_ok-label-in-BrTable-clause-aims : goal.returns-in_ok-label-in-BrTable-clause-aims
returns-in_ok-label-in-BrTable-clause-aims c =
    aims_br_table (frame_of c.args.activation.now) c.args.instr (topmost c.args.height c.args.operands.now)
    c.in_ok-place-in-BrTable.place (topmost (c.args.height - 1) c.args.operands.now) c.in_ok-place-in-BrTable.ensures.takes
    c.in-BrTable.table c.in_ok-label-in-BrTable.label c.in-BrTable.is c.in_ok-label-in-BrTable.ensures
