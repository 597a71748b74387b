use Rattle.wasm_types.proofs.ChainLemmas.{all_reflexive}
use Rattle.wasm_types.proofs.MatchingLemmas.{matches_reflexive, heap_reflexive, ref_reflexive, val_reflexive}
use Rattle.wasm_types.proofs.laws.law_matching_reflexive.Goals as goal

pub returns-clause-functions : goal.returns-clause-functions
returns-clause-functions c = matches_reflexive

pub returns-clause-heaps : goal.returns-clause-heaps
returns-clause-heaps c = heap_reflexive

pub returns-clause-references : goal.returns-clause-references
returns-clause-references c = ref_reflexive

pub returns-clause-values : goal.returns-clause-values
returns-clause-values c = val_reflexive

pub returns-clause-lists : goal.returns-clause-lists
returns-clause-lists c = all_reflexive
