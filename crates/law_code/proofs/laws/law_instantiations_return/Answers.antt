use Rattle.law_code.proofs.Calls.{instantiations_return, instantiations_never_stuck}
use Rattle.law_code.proofs.laws.law_instantiations_return.Goals as goal

pub returns-clause-returns : goal.returns-clause-returns
returns-clause-returns c = instantiations_return

pub returns-clause-unstuck : goal.returns-clause-unstuck
returns-clause-unstuck c = instantiations_never_stuck
