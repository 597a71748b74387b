use Rattle.wasm_types.proofs.ChainLemmas.{fits_along_chains}
use Rattle.wasm_types.proofs.laws.law_fits_along_chains.Goals as goal

pub returns : goal.returns
returns c = fits_along_chains
