use Rattle.std.proofs.Common.{◌≡◌, ◌≤◌, drop, length}
use Rattle.code_run.proofs.pauses.drop_operands.Given as goal

abbrev pub invariant-operands : goal.invariant-operands
invariant-operands l = record {
  enough : l.left ≤ length l.values.operands;
  operands : drop l.left l.values.operands ≡ drop l.count l.initial.values.operands;
  locals : l.values.locals ≡ l.initial.values.locals;
  below : l.values.below ≡ l.initial.values.below;
}

abbrev pub decreases-operands : goal.decreases-operands
decreases-operands l = l.left
