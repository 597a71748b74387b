use Rattle.std.proofs.Common.{◌≡◌, drop}
use Rattle.tape_values.specs.Types.{number_of, number_from}
use Rattle.tape_values.proofs.types.number_of.Given as goal

abbrev pub invariant-loop-number : goal.invariant-loop-number
invariant-loop-number l = number_of l.types l.ty ≡ number_from l.number l.ty (drop l.number l.types)
