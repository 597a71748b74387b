use Rattle.law_store.proofs.TableReadLemmas.{copy_gives_source, copy_keeps_others}
use Rattle.law_store.proofs.laws.law_tables_copy.Goals as goal

pub returns-clause-copied : goal.returns-clause-copied
returns-clause-copied c = copy_gives_source

pub returns-clause-beside : goal.returns-clause-beside
returns-clause-beside c = copy_keeps_others
