use Rattle.wasm_types.proofs.Members.{matches_its_chain}
use Rattle.wasm_types.proofs.laws.law_matching_by_chain.Goals as goal

pub returns : goal.returns
returns c = matches_its_chain
