use Rattle.code_run.specs.Steps.{came}
use Rattle.code_run.proofs.Conditions.{index_none, index_calls}
use Rattle.code_run.proofs.thread.Thread.call_index.Goals as goal

pub returns-in_default : goal.returns-in_default
returns-in_default c =
    index_none c.args.program.now c.args.frames c.args.index c.args.self.now c.args.self.now c.in_default.ensures

pub returns : goal.returns
returns c =
    index_calls c.args.program.now c.args.frames c.args.index c.args.self.now c.call.new.self c.in-Some.number
    (came c.in_ok-step.step c.call.new.self) c.in-Some.ensures c.in_ok-step.ensures
