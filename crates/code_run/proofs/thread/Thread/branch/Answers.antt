use Rattle.std.proofs.Common.{arith}
use Rattle.code_run.proofs.Threads.{branches_beyond, branches_to, branches_out}
use Rattle.code_run.proofs.thread.Thread.branch.Goals as goal

pub returns-then-passed-label : goal.returns-then-passed-label
returns-then-passed-label c = branches_beyond c.args.self.now c.drop_blocks-passed.result _
    c.drop_blocks-passed.ensures.dropped c.args.label c.args.self.now (omega arith)
    (c.drop_blocks-passed.ensures.all (omega arith))

pub returns-in-None : goal.returns-in-None
returns-in-None c = branches_out c.args.self.now c.drop_blocks-passed.result _ c.drop_blocks-passed.ensures.dropped _
    c.args.label _ c.leave.new.self (omega (arith, c.drop_blocks-passed.ensures.most))
    c.in-None.ensures.0 c.in-None.ensures.1 c.leave.ensures.leaves

pub returns-in_ok-step-in-Some : goal.returns-in_ok-step-in-Some
returns-in_ok-step-in-Some c = branches_to c.args.self.now c.drop_blocks-passed.result _
    c.drop_blocks-passed.ensures.dropped _ _ c.args.label _ c.branch_to.new.self
    (omega (arith, c.drop_blocks-passed.ensures.most)) c.in-Some.ensures c.in_ok-step-in-Some.ensures
