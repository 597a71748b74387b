use Rattle.law_store.proofs.TableReadLemmas.{grown_table_size, grown_table_keeps, grown_table_gives}
use Rattle.law_store.proofs.laws.law_tables_grow.Goals as goal

pub returns-clause-size : goal.returns-clause-size
returns-clause-size c = grown_table_size

pub returns-clause-kept : goal.returns-clause-kept
returns-clause-kept c = grown_table_keeps

pub returns-clause-appended : goal.returns-clause-appended
returns-clause-appended c = grown_table_gives
