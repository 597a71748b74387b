use Rattle.wasm_types.proofs.ChainLemmas.{all_transitive}
use Rattle.wasm_types.proofs.MatchingLemmas.{matches_transitive, heap_transitive, ref_transitive, val_transitive}
use Rattle.wasm_types.proofs.laws.law_matching_transitive.Goals as goal

pub returns-clause-functions : goal.returns-clause-functions
returns-clause-functions c = matches_transitive

pub returns-clause-heaps : goal.returns-clause-heaps
returns-clause-heaps c = heap_transitive

pub returns-clause-references : goal.returns-clause-references
returns-clause-references c = ref_transitive

pub returns-clause-values : goal.returns-clause-values
returns-clause-values c = val_transitive

pub returns-clause-lists : goal.returns-clause-lists
returns-clause-lists c = all_transitive
