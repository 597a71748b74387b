use Rattle.code_run.proofs.Threads.{block_none, block_short}
use Rattle.code_run.proofs.thread.Thread.block.Goals as goal

pub returns-in_default : goal.returns-in_default
returns-in_default c = block_none c.args.self.now c.args.self.now c.args.index c.in_default.ensures

pub returns-else-branch : goal.returns-else-branch
returns-else-branch c = block_short c.args.self.now c.args.self.now c.args.index _ c.in-Some.ensures
    (rw c.if-branch.false at c.in_ok-enter.ensures)
