use Rattle.law_code.proofs.HostValueLemmas.{results_are_owned, hosts_begin_owned}
use Rattle.law_code.proofs.laws.law_values_are_owned.Goals as goal

pub returns-clause-results : goal.returns-clause-results
returns-clause-results c = results_are_owned

pub returns-clause-begun : goal.returns-clause-begun
returns-clause-begun c = hosts_begin_owned
