use Rattle.std.proofs.Common.{◌≡◌, ◌-◌, ◌++◌}
use Rattle.spec_execution.specs.Allocation.{from}
use Rattle.instance_parts.proofs.spaces.add_numbers.Given as goal

abbrev pub invariant-loop-number : goal.invariant-loop-number
invariant-loop-number l = l.numbers.items ≡ l.fn.numbers.items ++ from l.first (l.number - l.first)
