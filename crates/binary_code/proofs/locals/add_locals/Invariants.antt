use Rattle.std.proofs.Common.{◌≡◌, ◌++◌, replicate}
use Rattle.binary_code.proofs.locals.add_locals.Given as goal

abbrev pub invariant-loop : goal.invariant-loop
invariant-loop l = l.locals-inside.0.items ≡ l.initial.locals-inside.0.items ++ replicate l.counter l.group.ty
