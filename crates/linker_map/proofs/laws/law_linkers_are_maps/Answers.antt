use Rattle.linker_map.proofs.LawLemmas.{given, others}
use Rattle.linker_map.proofs.laws.law_linkers_are_maps.Goals as goal

pub returns-clause-given : goal.returns-clause-given
returns-clause-given c = given

pub returns-clause-others : goal.returns-clause-others
returns-clause-others c = others
