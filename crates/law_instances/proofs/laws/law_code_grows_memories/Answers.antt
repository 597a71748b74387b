use Rattle.law_instances.proofs.GrowthLemmas.{memories_grow, memory_growths_come_first}
use Rattle.law_instances.proofs.laws.law_code_grows_memories.Goals as goal

pub returns-clause-grown : goal.returns-clause-grown
returns-clause-grown c = memories_grow

pub returns-clause-first : goal.returns-clause-first
returns-clause-first c = memory_growths_come_first
