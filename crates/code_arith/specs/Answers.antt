-- What the code answers where an operator gives a number or a trap. This project's own.
use Rattle.std.specs.Prelude.{ℕ, Result, Ok, Err}
use Rattle.code_arith.specs.declared.trap.ArithTrap.{ArithTrap}
use Rattle.code_arith.specs.declared.trap.ArithTrap.TheVariants as trap
use Rattle.wasm_syntax.specs.Operators.{ArithOutcome, Number, IntegerDivisionByZero, IntegerOverflow}

-- the number, or the trap
abbrev pub answer : ArithOutcome → Result ℕ ArithTrap
answer (Number n) = Ok n
answer IntegerDivisionByZero = Err trap.IntegerDivisionByZero
answer IntegerOverflow = Err trap.IntegerOverflow
