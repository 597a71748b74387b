use Rattle.law_store.proofs.ReadLemmas.{new_global_gives, set_global_gives}
use Rattle.law_store.proofs.laws.law_globals_give_back.Goals as goal

pub returns-clause-new : goal.returns-clause-new
returns-clause-new c = new_global_gives

pub returns-clause-set : goal.returns-clause-set
returns-clause-set c = set_global_gives
