use Rattle.std.proofs.Common.{◌≡◌, ◌≤◌, ◌^◌, length, sum_by, ◌+◌}
use Rattle.wasm_syntax.specs.declared.declarations.Block.{Block}
use Rattle.module_shapes.proofs.sizes.are_few_instructions.Given as goal

abbrev pub invariant-loop-rest : goal.invariant-loop-rest
invariant-loop-rest l = record {
  few : l.count ≤ 2 ^ 20;
  sum : l.count + sum_by (λ (b : Block). length b.instrs) l.rest ≡ sum_by (λ (b : Block). length b.instrs) l.blocks;
}

abbrev pub decreases-loop-rest : goal.decreases-loop-rest
decreases-loop-rest l = length l.rest
