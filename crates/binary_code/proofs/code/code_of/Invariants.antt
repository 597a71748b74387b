use Rattle.std.proofs.Common.{suc, ◌-◌}
use Rattle.binary_code.specs.Nesting.{IsDue}
use Rattle.binary_code.proofs.Owed.{outermost}
use Rattle.binary_code.proofs.code.code_of.Given as goal

abbrev pub invariant-loop : goal.invariant-loop
invariant-loop l = IsDue l.context (suc l.most - l.counter) l.nesting l.input (outermost l.fn.context l.fn.ty l.fn.types l.fn.input)
