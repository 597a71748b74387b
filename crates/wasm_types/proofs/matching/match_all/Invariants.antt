use Rattle.std.proofs.Common.{◌≡◌, length}
use Rattle.wasm_types.specs.Matching.{all_match}
use Rattle.wasm_types.proofs.matching.match_all.Given as goal

abbrev pub invariant-loop-rest : goal.invariant-loop-rest
invariant-loop-rest l = all_match l.rest l.wanted ≡ all_match l.types l.others

abbrev pub decreases-loop-rest : goal.decreases-loop-rest
decreases-loop-rest l = length l.rest
