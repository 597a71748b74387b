use Rattle.std.proofs.Common.{◌≡◌, ◌++◌, length}
use Rattle.code_stack.specs.Values.{values_parts}
use Rattle.code_run.proofs.starts.add_locals.Given as goal

abbrev pub invariant-locals : goal.invariant-locals
invariant-locals l =
    values_parts l.values.operands (l.values.locals ++ l.rest) l.values.below l.values.room
    ≡ values_parts l.initial.values.operands (l.initial.values.locals ++ l.locals)
    l.initial.values.below l.initial.values.room

abbrev pub decreases-locals : goal.decreases-locals
decreases-locals l = length l.rest
