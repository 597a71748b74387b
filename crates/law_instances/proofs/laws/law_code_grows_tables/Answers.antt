use Rattle.law_instances.proofs.GrowthLemmas.{tables_grow, table_growths_come_first}
use Rattle.law_instances.proofs.laws.law_code_grows_tables.Goals as goal

pub returns-clause-grown : goal.returns-clause-grown
returns-clause-grown c = tables_grow

pub returns-clause-first : goal.returns-clause-first
returns-clause-first c = table_growths_come_first
