use Rattle.std.proofs.Common.{refl}
use Rattle.code_run.proofs.Threads.{loop_none, loop_goes, loop_short}
use Rattle.code_run.proofs.thread.Thread.begin_loop.Goals as goal

pub returns-in_default : goal.returns-in_default
returns-in_default c = loop_none c.args.self.now c.args.self.now c.args.index c.in_default.ensures

pub returns-else-branch : goal.returns-else-branch
returns-else-branch c = loop_short c.args.self.now c.args.self.now c.args.index _ c.in-Some.ensures
    (rw c.if-branch.false at c.in_ok-enter.ensures)

pub returns-then-branch : goal.returns-then-branch
returns-then-branch c = loop_goes _ _ _ c.args.self.now _ (rw c.if-branch.true at c.in_ok-enter.ensures)
    c.args.index c.in-Some.ensures refl refl
