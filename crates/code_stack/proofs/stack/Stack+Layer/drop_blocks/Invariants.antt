use Rattle.std.proofs.Common.{◌≡◌, ◌+◌, ◌-◌, ◌≤◌, length}
use Rattle.code_stack.specs.Layers.{HasDropped}
use Rattle.code_stack.proofs.stack.Stack+Layer.drop_blocks.Given as goal

abbrev pub invariant-blocks-2 : goal.invariant-blocks-2
invariant-blocks-2 l = record {
  dropped : HasDropped l.dropped l.initial.self l.self;
  most : l.dropped ≤ l.most;
  length : length l.self + l.dropped ≡ length l.initial.self;
}

abbrev pub decreases-blocks-2 : goal.decreases-blocks-2
decreases-blocks-2 l = l.most - l.dropped
