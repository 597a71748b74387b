use Rattle.wasm_types.proofs.SoundTypeLemmas.{is_of_its_parts}
use Rattle.wasm_types.proofs.RoundTripLemmas.{has_its_parts}
use Rattle.wasm_types.proofs.laws.law_parts.Goals as goal

pub returns-clause-has : goal.returns-clause-has
returns-clause-has c = has_its_parts

pub returns-clause-is : goal.returns-clause-is
returns-clause-is c = is_of_its_parts
