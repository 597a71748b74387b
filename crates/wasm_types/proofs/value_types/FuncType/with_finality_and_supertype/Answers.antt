use Rattle.std.proofs.Common.{ap, ◌∙◌}
use Rattle.wasm_types.specs.FunctionParts.{parts_of}
use Rattle.wasm_types.proofs.RoundTripLemmas.{has_its_parts}
use Rattle.wasm_types.proofs.value_types.FuncType.with_finality_and_supertype.Goals as goal

pub returns-in-Ok-clause-parts : goal.returns-in-Ok-clause-parts
returns-in-Ok-clause-parts c = ap parts_of c.in-Ok.ensures ∙ has_its_parts _
