use Rattle.law_instances.proofs.KeptLemmas.{calls_keep_objects, instantiations_keep_objects}
use Rattle.law_instances.proofs.laws.law_code_keeps_objects.Goals as goal

pub returns-clause-calls : goal.returns-clause-calls
returns-clause-calls c = calls_keep_objects

pub returns-clause-instantiations : goal.returns-clause-instantiations
returns-clause-instantiations c = instantiations_keep_objects
