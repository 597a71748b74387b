use Rattle.wasm_types.specs.EqualityLaws.{same_decides}
use Rattle.wasm_types.proofs.EqualityLemmas.{same_ref_exact, same_val_exact}
use Rattle.wasm_types.proofs.laws.law_sameness_exact.Goals as goal

pub returns-clause-functions : goal.returns-clause-functions
returns-clause-functions c = same_decides

pub returns-clause-references : goal.returns-clause-references
returns-clause-references c = same_ref_exact

pub returns-clause-values : goal.returns-clause-values
returns-clause-values c = same_val_exact
