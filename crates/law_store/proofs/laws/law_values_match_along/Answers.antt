use Rattle.law_store.proofs.FitLemmas.{ref_fits_along, val_fits_along}
use Rattle.law_store.proofs.laws.law_values_match_along.Goals as goal

pub returns-clause-references : goal.returns-clause-references
returns-clause-references c = ref_fits_along

pub returns-clause-values : goal.returns-clause-values
returns-clause-values c = val_fits_along
