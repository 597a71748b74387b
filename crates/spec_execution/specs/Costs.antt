-- What an instruction takes of the fuel. This project's own: bulk instructions are metered by their length.
use Rattle.std.specs.Prelude.{ℕ, suc, ◌%◌, ◌^◌, Bool, true, false, List, [], ◌∷◌, Option, Some, None, if◌then◌else◌}
use Rattle.wasm_syntax.specs.declared.instr.Instr.{Instr}
use Rattle.wasm_syntax.specs.declared.instr.Instr.TheVariants as i
use Rattle.wasm_objects.specs.declared.raw.RawVal.{RawVal}
use Rattle.spec_execution.specs.Operands as on

-- the bulk forms, whose topmost operand is a length
abbrev pub is_bulk : Instr → Bool
is_bulk (i.MemoryFill k) = true
is_bulk (i.MemoryCopy dst src) = true
is_bulk (i.MemoryInit memory segment) = true
is_bulk (i.TableFill k) = true
is_bulk (i.TableCopy dst src) = true
is_bulk (i.TableInit table segment) = true
is_bulk _ = false

-- the length, which an operand of 32 bits holds below 2^32; code without one does not validate
abbrev pub length_in : Option ℕ → ℕ
length_in None = 0
length_in (Some n) = n % 2 ^ 32

abbrev pub length_of : List RawVal → ℕ
length_of [] = 0
length_of (v ∷ rest) = length_in (on.integer_in 32 v)

-- one unit, and behind it one for each byte or element
abbrev pub cost : Instr → List RawVal → ℕ
cost j operands = suc (if is_bulk j then length_of operands else 0)
