use Rattle.std.proofs.Common.{◌≡◌, length}
use Rattle.wasm_types.specs.FunctionParts.{types_of}
use Rattle.wasm_types.specs.Signatures.{are_of}
use Rattle.wasm_types.proofs.matching.are_all_of.Given as goal

abbrev pub invariant-loop-rest : goal.invariant-loop-rest
invariant-loop-rest l = are_of l.engine.0 (types_of l.rest) ≡ are_of l.engine.0 (types_of l.types)

abbrev pub decreases-loop-rest : goal.decreases-loop-rest
decreases-loop-rest l = length l.rest
