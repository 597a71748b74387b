use Rattle.std.proofs.Common.{◌≡◌, ◌++◌, length}
use Rattle.spec_execution.specs.Allocation.{globals_with}
use Rattle.instance_parts.proofs.objects.globals_with.Given as goal

abbrev pub invariant-globals : goal.invariant-globals
invariant-globals l = l.made.items ++ globals_with l.left l.rest ≡ globals_with l.values l.globals

abbrev pub decreases-globals : goal.decreases-globals
decreases-globals l = length l.left
