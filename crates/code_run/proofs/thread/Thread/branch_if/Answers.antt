use Rattle.code_run.proofs.Conditions.{br_if_lacks}
use Rattle.code_run.proofs.thread.Thread.branch_if.Goals as goal

pub returns-in_default : goal.returns-in_default
returns-in_default c = br_if_lacks c.args.self.now c.args.self.now c.args.label c.in_default.ensures.value
