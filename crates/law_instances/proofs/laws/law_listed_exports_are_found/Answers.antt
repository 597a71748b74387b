use Rattle.law_instances.proofs.ExportLemmas.{entries_are_found, names_differ}
use Rattle.law_instances.proofs.laws.law_listed_exports_are_found.Goals as goal

pub returns-clause-found : goal.returns-clause-found
returns-clause-found c = entries_are_found

pub returns-clause-once : goal.returns-clause-once
returns-clause-once c = names_differ
