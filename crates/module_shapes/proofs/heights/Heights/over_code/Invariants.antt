use Rattle.std.proofs.Common.{◌≡◌, length, flat_map}
use Rattle.wasm_syntax.specs.Instructions.{blocks_named}
use Rattle.module_shapes.specs.Heights.{over_all}
use Rattle.module_shapes.proofs.heights.Heights.over_code.Given as goal

abbrev pub invariant-loop-rest : goal.invariant-loop-rest
invariant-loop-rest l =
    over_all l.own l.self l.tallest (flat_map blocks_named l.rest) ≡ over_all l.own l.self 0 (flat_map blocks_named l.code)

abbrev pub decreases-loop-rest : goal.decreases-loop-rest
decreases-loop-rest l = length l.rest
