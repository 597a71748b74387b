use Rattle.std.proofs.Common.{◌+◌, ◌-◌, ◌≤◌, drop, length}
use Rattle.code_stack.specs.Layers.{HasDropped}
use Rattle.code_stack.proofs.stack.Stack+Layer.label.Given as goal

abbrev pub invariant-walk : goal.invariant-walk
invariant-walk l = record {
  dropped : HasDropped (l.height + l.outwards - length l.self) (drop (length l.self - l.height) l.self)
      (drop l.outwards l.self);
  behind : length l.self ≤ l.height + l.outwards;
  all : l.height ≤ length l.self;
}

abbrev pub decreases-walk : goal.decreases-walk
decreases-walk l = l.length - l.height
