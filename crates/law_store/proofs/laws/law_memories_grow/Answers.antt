use Rattle.law_store.proofs.ReadLemmas.{whole_pages, grown_memory_size, grown_memory_keeps, grown_memory_is_zero}
use Rattle.law_store.proofs.laws.law_memories_grow.Goals as goal

pub returns-clause-whole : goal.returns-clause-whole
returns-clause-whole c = whole_pages

pub returns-clause-size : goal.returns-clause-size
returns-clause-size c = grown_memory_size

pub returns-clause-kept : goal.returns-clause-kept
returns-clause-kept c = grown_memory_keeps

pub returns-clause-appended : goal.returns-clause-appended
returns-clause-appended c = grown_memory_is_zero
