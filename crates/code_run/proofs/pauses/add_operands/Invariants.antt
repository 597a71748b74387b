use Rattle.std.proofs.Common.{◌≡◌, ◌≤◌, ◌++◌, length}
use Rattle.std.specs.Prelude.{reverse}
use Rattle.code_run.proofs.pauses.add_operands.Given as goal

abbrev pub invariant-added : goal.invariant-added
invariant-added l = record {
  room : length l.rest ≤ l.values.room;
  operands : reverse l.rest ++ l.values.operands ≡ reverse l.added ++ l.initial.values.operands;
  locals : l.values.locals ≡ l.initial.values.locals;
  below : l.values.below ≡ l.initial.values.below;
}

abbrev pub decreases-added : goal.decreases-added
decreases-added l = length l.rest
