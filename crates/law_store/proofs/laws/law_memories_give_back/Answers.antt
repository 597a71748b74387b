use Rattle.law_store.proofs.ReadLemmas.{written_range_gives, write_keeps_others}
use Rattle.law_store.proofs.laws.law_memories_give_back.Goals as goal

pub returns-clause-written : goal.returns-clause-written
returns-clause-written c = written_range_gives

pub returns-clause-beside : goal.returns-clause-beside
returns-clause-beside c = write_keeps_others
