use Rattle.std.proofs.Common.{◌≡◌, ◌≤◌, min, max, ◌+◌, length}
use Rattle.wasm_types.specs.FunctionRules.{AreSound}
use Rattle.wasm_types.specs.FunctionParts.{types_of}
use Rattle.wasm_types.specs.Signatures.{depth_in, size_in}
use Rattle.wasm_types.proofs.func_type.extent_of.Given as goal

abbrev pub invariant-loop-rest : goal.invariant-loop-rest
invariant-loop-rest l =
    (max l.depth (depth_in (types_of l.rest)) ≡ depth_in (types_of l.types)) ×
    (min 65537 (l.size + size_in (types_of l.rest)) ≡ min 65537 (size_in (types_of l.types))) ×
    (l.size ≤ 65537) ×
    (l.depth ≤ 32) ×
    (AreSound (types_of l.rest) → AreSound (types_of l.types))

abbrev pub decreases-loop-rest : goal.decreases-loop-rest
decreases-loop-rest l = length l.rest
