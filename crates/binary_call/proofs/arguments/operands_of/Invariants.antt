use Rattle.std.proofs.Common.{◌≡◌, take}
use Rattle.binary_call.specs.Calls.{operands_of}
use Rattle.binary_call.proofs.arguments.operands_of.Given as goal

abbrev pub invariant-loop-value : goal.invariant-loop-value
invariant-loop-value l = l.operands.items ≡ operands_of (take l.value-index l.values)
