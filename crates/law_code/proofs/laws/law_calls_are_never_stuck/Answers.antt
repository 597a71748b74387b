use Rattle.law_code.proofs.Calls.{never_stuck}
use Rattle.law_code.proofs.laws.law_calls_are_never_stuck.Goals as goal

pub returns : goal.returns
returns c = never_stuck
