use Rattle.std.proofs.Common.{◌≡◌, map}
use Rattle.spec_execution.specs.Allocation.{from}
use Rattle.spec_machine.specs.Machine.{guest}
use Rattle.instance_parts.proofs.objects.new_functions.Given as goal

abbrev pub invariant-loop-number : goal.invariant-loop-number
invariant-loop-number l = l.made.items ≡ map (guest l.instance) (from 0 l.number)
