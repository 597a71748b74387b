use Rattle.law_store.proofs.TableReadLemmas.{set_element_gives, set_keeps_others, filled_range_gives, fill_keeps_others}
use Rattle.law_store.proofs.laws.law_tables_give_back.Goals as goal

pub returns-clause-set : goal.returns-clause-set
returns-clause-set c = set_element_gives

pub returns-clause-beside_set : goal.returns-clause-beside_set
returns-clause-beside_set c = set_keeps_others

pub returns-clause-filled : goal.returns-clause-filled
returns-clause-filled c = filled_range_gives

pub returns-clause-beside_filled : goal.returns-clause-beside_filled
returns-clause-beside_filled c = fill_keeps_others
