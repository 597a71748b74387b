use Rattle.std.proofs.Common.{◌≡◌, map, take}
use Rattle.c_values.specs.Values.{value_out}
use Rattle.c_calls.proofs.values.told.Given as goal

abbrev pub invariant-loop-value : goal.invariant-loop-value
invariant-loop-value l = l.made.items ≡ map value_out (take l.value-index l.values)
