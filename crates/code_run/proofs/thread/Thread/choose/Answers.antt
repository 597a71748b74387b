use Rattle.code_run.proofs.Conditions.{if_lacks}
use Rattle.code_run.proofs.thread.Thread.choose.Goals as goal

pub returns-in_default : goal.returns-in_default
returns-in_default c = if_lacks c.args.self.now c.args.self.now c.args.first c.args.second c.in_default.ensures.value
