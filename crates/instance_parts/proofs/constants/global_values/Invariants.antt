use Rattle.std.proofs.Common.{◌≡◌, length}
use Rattle.spec_execution.specs.Allocation.{values_from}
use Rattle.instance_parts.proofs.constants.global_values.Given as goal

abbrev pub invariant-globals : goal.invariant-globals
invariant-globals l =
    values_from l.functions l.values.items l.rest ≡ values_from l.functions l.fn.imported.items l.globals

abbrev pub decreases-globals : goal.decreases-globals
decreases-globals l = length l.rest
