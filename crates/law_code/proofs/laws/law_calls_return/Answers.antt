use Rattle.law_code.proofs.Calls.{calls_return, host_calls_return}
use Rattle.law_code.proofs.laws.law_calls_return.Goals as goal

pub returns-clause-inner : goal.returns-clause-inner
returns-clause-inner c = calls_return

pub returns-clause-outermost : goal.returns-clause-outermost
returns-clause-outermost c = host_calls_return
