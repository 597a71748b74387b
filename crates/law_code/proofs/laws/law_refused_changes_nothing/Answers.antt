use Rattle.law_code.proofs.PlainRuns.{refused_changes_nothing, conditions_change_nothing}
use Rattle.law_code.proofs.laws.law_refused_changes_nothing.Goals as goal

pub returns-clause-refused : goal.returns-clause-refused
returns-clause-refused c = refused_changes_nothing

pub returns-clause-conditions : goal.returns-clause-conditions
returns-clause-conditions c = conditions_change_nothing
