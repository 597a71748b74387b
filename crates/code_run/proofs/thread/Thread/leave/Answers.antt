use Rattle.code_run.proofs.Threads.{leave_fails, leave_goes, leave_ends}
use Rattle.code_run.proofs.thread.Thread.leave.Goals as goal

pub returns-then-not-leave-clause-leaves : goal.returns-then-not-leave-clause-leaves
returns-then-not-leave-clause-leaves c = leave_fails c.args.self.now c.args.passed c.args.self.now c.requires
    c.if-not-leave.ensures

pub returns-in-None-clause-leaves : goal.returns-in-None-clause-leaves
returns-in-None-clause-leaves c = leave_ends c.args.self.now c.args.passed _ c.if-not-leave.ensures c.pop.new.self
    c.in-None.ensures.0

pub returns-in-Some-Call-clause-leaves : goal.returns-in-Some-Call-clause-leaves
returns-in-Some-Call-clause-leaves c = leave_goes c.args.self.now c.args.passed _ c.if-not-leave.ensures _ _ _
    c.in-Some-Call.ensures c.in-Some-Call.field-0-is
