use Rattle.code_run.proofs.Threads.{branch_fails, branch_goes, branch_repeats}
use Rattle.code_run.proofs.thread.Thread.branch_to.Goals as goal

pub returns-then-not-close : goal.returns-then-not-close
returns-then-not-close c = branch_fails c.args.self.now c.args.label c.args.passed c.args.self.now
    c.if-not-close.ensures.done

pub returns-in-None : goal.returns-in-None
returns-in-None c = branch_goes c.args.self.now c.args.label c.args.passed _ c.if-not-close.ensures.done c.in-None.is

pub returns-in_ok-step-in-Some : goal.returns-in_ok-step-in-Some
returns-in_ok-step-in-Some c = branch_repeats c.args.self.now c.args.label c.args.passed _ _ _ c.repeat.new.self
    c.if-not-close.ensures.done c.in-Some.is c.in_ok-step-in-Some.ensures
