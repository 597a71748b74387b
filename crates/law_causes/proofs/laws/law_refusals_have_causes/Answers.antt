use Rattle.law_causes.proofs.LawLemmas.{calls_have_causes, instantiations_have_causes, commands_have_causes}
use Rattle.law_causes.proofs.laws.law_refusals_have_causes.Goals as goal

pub returns-clause-calls : goal.returns-clause-calls
returns-clause-calls c = calls_have_causes

pub returns-clause-instantiations : goal.returns-clause-instantiations
returns-clause-instantiations c = instantiations_have_causes

pub returns-clause-commands : goal.returns-clause-commands
returns-clause-commands c = commands_have_causes
