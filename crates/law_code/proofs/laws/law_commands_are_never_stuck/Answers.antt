use Rattle.law_code.proofs.RunsKeep.{commands_never_stuck}
use Rattle.law_code.proofs.laws.law_commands_are_never_stuck.Goals as goal

pub returns : goal.returns
returns c = commands_never_stuck
