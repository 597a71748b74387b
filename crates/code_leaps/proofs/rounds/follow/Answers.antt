use Rattle.std.proofs.Common.{◌-◌}
use Rattle.code_straight.specs.Frames.{topmost}
use Rattle.code_leaps.proofs.LoopLemmas.{back_by_br, back_by_br_if}
use Rattle.code_leaps.proofs.rounds.follow.Goals as goal

pub returns-in-Br-clause-hops : goal.returns-in-Br-clause-hops
returns-in-Br-clause-hops c =
    back_by_br c.args.again.now c.args.passes c.args.code.now c.in_ok-instr.rest.now c.in_ok-instr.instr.now
    c.in_ok-instr.ensures.cases.0 (topmost c.args.height c.args.operands.now) c.in-Br.label c.args.operands.now
    c.next_round.result c.next_round.ensures.innermost c.next_round.ensures.passing c.next_round.ensures.round c.in-Br.is

pub returns-else-branch-eq0-clause-hops : goal.returns-else-branch-eq0-clause-hops
returns-else-branch-eq0-clause-hops c =
    back_by_br_if c.args.again.now c.args.passes c.args.code.now c.in_ok-instr.rest.now c.in_ok-instr.instr.now
    c.in_ok-instr.ensures.cases.0 (topmost c.args.height c.args.operands.now) c.in-BrIf.label c.args.operands.now
    c.next_round-in-BrIf.result c.next_round-in-BrIf.ensures.innermost c.next_round-in-BrIf.ensures.passing
    c.next_round-in-BrIf.ensures.round c.in_ok-condition-in-BrIf.field-0
    (topmost (c.args.height - 1) c.args.operands.now) c.in-BrIf.is c.in_ok-condition-in-BrIf.ensures.takes
    c.if-branch-eq0.false
