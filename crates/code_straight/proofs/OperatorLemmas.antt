-- What an operator gave, as the effect of its instruction.
use Rattle.std.proofs.Common.{◌≡◌, ℕ, ap}
use Rattle.std.specs.Prelude.{Ok, Err}
use Rattle.wasm_syntax.specs.Operators.{ArithOutcome, Number, IntegerDivisionByZero, IntegerOverflow}
use Rattle.wasm_values.specs.declared.refusals.Trap.{Trap}
use Rattle.wasm_values.specs.declared.refusals.Trap.TheVariants as trap
use Rattle.wasm_objects.specs.declared.raw.RawVal.{RawVal}
use Rattle.spec_execution.specs.Operands as on
use Rattle.spec_execution.specs.Straight.{Effect, Traps, result_of}
use Rattle.code_arith.specs.Answers.{answer}
use Rattle.code_arith.specs.declared.trap.ArithTrap.{ArithTrap}
use Rattle.code_arith.specs.declared.trap.ArithTrap.TheVariants as arith_trap
use Rattle.code_straight.specs.Numbers.{trap_of, operand_of}

module _ (go : RawVal → Effect) (n : ℕ) where
  pub operated : (r : ArithOutcome) (v : RawVal) → Ok v ≡ operand_of n r → result_of go n r ≡ go v
  operated (Number x) v e = let is : on.integer n x ≡ v = cc in ap go is
  operated IntegerDivisionByZero v e = absurd cc
  operated IntegerOverflow v e = absurd cc

  pub trapped : (r : ArithOutcome) (t : Trap) → Err t ≡ operand_of n r → result_of go n r ≡ Traps t
  trapped (Number x) t e = absurd cc
  trapped IntegerDivisionByZero t e = let is : trap.IntegerDivisionByZero ≡ t = cc in ap Traps is
  trapped IntegerOverflow t e = let is : trap.IntegerOverflow ≡ t = cc in ap Traps is

  pub counted : (r : ArithOutcome) (x : ℕ) → Ok x ≡ answer r → result_of go n r ≡ go (on.integer n x)
  counted (Number y) x e = let is : y ≡ x = cc in ap (λ z. go (on.integer n z)) is
  counted IntegerDivisionByZero x e = absurd cc
  counted IntegerOverflow x e = absurd cc

  pub barred : (r : ArithOutcome) (t : ArithTrap) → Err t ≡ answer r → result_of go n r ≡ Traps (trap_of t)
  barred (Number x) t e = absurd cc
  barred IntegerDivisionByZero t e = let is : arith_trap.IntegerDivisionByZero ≡ t = cc in ap (λ u. Traps (trap_of u)) is
  barred IntegerOverflow t e = let is : arith_trap.IntegerOverflow ≡ t = cc in ap (λ u. Traps (trap_of u)) is
