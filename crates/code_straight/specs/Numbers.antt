-- What an operator gives, as code holds it. This project's own.
use Rattle.std.specs.Prelude.{ℕ, Result, Ok, Err}
use Rattle.code_arith.specs.declared.trap.ArithTrap.{ArithTrap}
use Rattle.code_arith.specs.declared.trap.ArithTrap.TheVariants as arith_trap
use Rattle.wasm_syntax.specs.Operators.{ArithOutcome, Number, IntegerDivisionByZero, IntegerOverflow}
use Rattle.wasm_values.specs.declared.refusals.Trap.{Trap}
use Rattle.wasm_values.specs.declared.refusals.Trap.TheVariants as trap
use Rattle.wasm_objects.specs.declared.raw.RawVal.{RawVal}
use Rattle.spec_execution.specs.Operands as on

abbrev pub trap_of : ArithTrap → Trap
trap_of arith_trap.IntegerDivisionByZero = trap.IntegerDivisionByZero
trap_of arith_trap.IntegerOverflow = trap.IntegerOverflow

-- the operand of so many bits, or the trap
abbrev pub operand_of : ℕ → ArithOutcome → Result RawVal Trap
operand_of n (Number x) = Ok (on.integer n x)
operand_of n IntegerDivisionByZero = Err trap.IntegerDivisionByZero
operand_of n IntegerOverflow = Err trap.IntegerOverflow
