-- What an instruction takes of the fuel at most.
use Rattle.std.proofs.Common.{ℕ, suc, ◌^◌, ◌≤◌, Bool, true, false, List, [], ◌∷◌, Option, Some, None, if◌then◌else◌, arith}
use Rattle.std.proofs.Math.Nat.{mod-lt}
use Rattle.wasm_syntax.specs.declared.instr.Instr.{Instr}
use Rattle.wasm_objects.specs.declared.raw.RawVal.{RawVal}
use Rattle.spec_execution.specs.Costs.{is_bulk, length_in, length_of, cost}
use Rattle.spec_execution.specs.Operands as on

length_in_within : (o : Option ℕ) → suc (length_in o) ≤ 2 ^ 32
length_in_within None = omega arith
length_in_within (Some n) = mod-lt n (omega arith)

pub length_within : (operands : List RawVal) → suc (length_of operands) ≤ 2 ^ 32
length_within [] = omega arith
length_within (v ∷ rest) = length_in_within (on.integer_in 32 v)

cost_by : (bulk : Bool) (operands : List RawVal) → suc (if bulk then length_of operands else 0) ≤ 2 ^ 32
cost_by true operands = length_within operands
cost_by false operands = omega arith

pub cost_within : (j : Instr) (operands : List RawVal) → cost j operands ≤ 2 ^ 32
cost_within j operands = cost_by (is_bulk j) operands
