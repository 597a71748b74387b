use Rattle.std.proofs.Common.{◌≡◌, length, reverse}
use Rattle.wasm_types.specs.Matching.{all_match}
use Rattle.module_typing.specs.Operands.{types_in}
use Rattle.module_typing.proofs.code.Code.are.Given as goal

abbrev pub invariant-loop-last : goal.invariant-loop-last
invariant-loop-last l =
    all_match (types_in l.self l.operands) (reverse l.results) ≡ all_match (types_in l.self (reverse l.left)) (reverse l.rest)

abbrev pub decreases-loop-last : goal.decreases-loop-last
decreases-loop-last l = length l.rest
