use Rattle.wasm_types.specs.EqualityLaws.{same_decides}
use Rattle.wasm_types.proofs.EqualityLemmas.{memory_exact, table_exact, global_exact, tag_exact, extern_exact}
use Rattle.wasm_types.proofs.RoundTripLemmas.{heap_exact, ref_exact, val_exact}
use Rattle.wasm_types.proofs.laws.law_equality_exact.Goals as goal

pub returns-clause-functions : goal.returns-clause-functions
returns-clause-functions c = same_decides

pub returns-clause-heaps : goal.returns-clause-heaps
returns-clause-heaps c = heap_exact

pub returns-clause-references : goal.returns-clause-references
returns-clause-references c = ref_exact

pub returns-clause-values : goal.returns-clause-values
returns-clause-values c = val_exact

pub returns-clause-memories : goal.returns-clause-memories
returns-clause-memories c = memory_exact

pub returns-clause-tables : goal.returns-clause-tables
returns-clause-tables c = table_exact

pub returns-clause-globals : goal.returns-clause-globals
returns-clause-globals c = global_exact

pub returns-clause-tags : goal.returns-clause-tags
returns-clause-tags c = tag_exact

pub returns-clause-externs : goal.returns-clause-externs
returns-clause-externs c = extern_exact
