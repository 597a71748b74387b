-- The operators on integers: their types, and their arithmetic with its traps.
-- An integer of n bits is a number from 0 to 2 ^ n - 1.
-- The names with `i` in front are those of the WebAssembly core specification, "Execution, Numerics, Integer operations".
use Rattle.std.specs.Prelude.{ℕ, ◌+◌, ◌-◌, ◌*◌, ◌/◌, ◌%◌, ◌^◌, Bool, true, false, not, ◌&&◌, ◌==◌, nat_lt, nat_le, if◌then◌else◌, ℤ, pos, negsuc, ◌-ℤ◌, int_lt, int_le, int_div, int_rem, bit_and, bit_or, bit_xor, count_ones}
use Rattle.std.specs.Int.{int_shr}
use Rattle.std.specs.Int.Count.{count_leading_zeros, count_trailing_zeros}
use Rattle.wasm_types.specs.declared.value_types.ValType.{ValType}
use Rattle.wasm_types.specs.declared.value_types.ValType.TheVariants as v
use Rattle.wasm_syntax.specs.declared.operators.UnOp.{UnOp}
use Rattle.wasm_syntax.specs.declared.operators.UnOp.TheVariants.{I32Clz, I32Ctz, I32Popcnt, I32Eqz, I32Extend8S, I32Extend16S, I64Clz, I64Ctz, I64Popcnt, I64Eqz, I64Extend8S, I64Extend16S, I64Extend32S, I32WrapI64, I64ExtendI32S, I64ExtendI32U}
use Rattle.wasm_syntax.specs.declared.operators.BinOp.{BinOp}
use Rattle.wasm_syntax.specs.declared.operators.BinOp.TheVariants.{I32Add, I32Sub, I32Mul, I32DivS, I32DivU, I32RemS, I32RemU, I32And, I32Or, I32Xor, I32Shl, I32ShrS, I32ShrU, I32Rotl, I32Rotr, I32Eq, I32Ne, I32LtS, I32LtU, I32GtS, I32GtU, I32LeS, I32LeU, I32GeS, I32GeU, I64Add, I64Sub, I64Mul, I64DivS, I64DivU, I64RemS, I64RemU, I64And, I64Or, I64Xor, I64Shl, I64ShrS, I64ShrU, I64Rotl, I64Rotr, I64Eq, I64Ne, I64LtS, I64LtU, I64GtS, I64GtU, I64LeS, I64LeU, I64GeS, I64GeU}

-- ---- readings of an integer: "Integer operations", Sign interpretation

-- the signed value of an integer of n bits
abbrev pub signed : ℕ → ℕ → ℤ
signed n x = (if nat_lt x (2 ^ (n - 1)) then pos x else pos x -ℤ pos (2 ^ n))

-- the integer of n bits that has this signed value: the inverse of `signed`
abbrev pub unsigned : ℕ → ℤ → ℕ
unsigned n (pos m) = m
unsigned n (negsuc m) = 2 ^ n - (m + 1)

-- the truth of a test, as a number: "Integer operations", Boolean interpretation
abbrev pub truth : Bool → ℕ
truth b = (if b then 1 else 0)

-- ---- operations that give a number: "Integer operations"

-- iadd: the sum, modulo 2 ^ n
abbrev pub iadd : ℕ → ℕ → ℕ → ℕ
iadd n x y = (x + y) % 2 ^ n

-- isub: the difference, modulo 2 ^ n
abbrev pub isub : ℕ → ℕ → ℕ → ℕ
isub n x y = (x + (2 ^ n - y)) % 2 ^ n

-- imul: the product, modulo 2 ^ n
abbrev pub imul : ℕ → ℕ → ℕ → ℕ
imul n x y = (x * y) % 2 ^ n

-- ishl: the bits moved up by y modulo n places, with zeros below
abbrev pub ishl : ℕ → ℕ → ℕ → ℕ
ishl n x y = (x * 2 ^ (y % n)) % 2 ^ n

-- ishr_u: the bits moved down by y modulo n places, with zeros above
abbrev pub ishr_u : ℕ → ℕ → ℕ → ℕ
ishr_u n x y = x / 2 ^ (y % n)

-- ishr_s: the bits moved down by y modulo n places, with copies of the sign bit above: the signed quotient, rounded down
abbrev pub ishr_s : ℕ → ℕ → ℕ → ℕ
ishr_s n x y = unsigned n (int_shr (signed n x) (y % n))

-- the bits moved up by k places, and those that leave at the top below them
abbrev pub turned_left : ℕ → ℕ → ℕ → ℕ
turned_left n x k = (x * 2 ^ k) % 2 ^ n + x / 2 ^ (n - k)

-- irotl: the turn to the left by y modulo n places
abbrev pub irotl : ℕ → ℕ → ℕ → ℕ
irotl n x y = turned_left n x (y % n)

-- the bits moved down by k places, and those that leave at the bottom above them
abbrev pub turned_right : ℕ → ℕ → ℕ → ℕ
turned_right n x k = x / 2 ^ k + (x * 2 ^ (n - k)) % 2 ^ n

-- irotr: the turn to the right by y modulo n places
abbrev pub irotr : ℕ → ℕ → ℕ → ℕ
irotr n x y = turned_right n x (y % n)

-- iclz: how many zeros stand above the highest one; n where x is 0
abbrev pub iclz : ℕ → ℕ → ℕ
iclz n x = count_leading_zeros n x

-- ictz: how many zeros stand below the lowest one; n where x is 0
abbrev pub ictz : ℕ → ℕ → ℕ
ictz n x = count_trailing_zeros n x

-- "Conversions", wrap: the low n bits
abbrev pub wrap : ℕ → ℕ → ℕ
wrap n x = x % 2 ^ n

-- "Conversions", extend_s: the integer of n bits with the signed value of an integer of m bits
abbrev pub extend_s : ℕ → ℕ → ℕ → ℕ
extend_s m n x = unsigned n (signed m x)

-- iextend: the low m bits of an integer of n bits, with copies of the highest of them above
abbrev pub iextend_s : ℕ → ℕ → ℕ → ℕ
iextend_s m n x = extend_s m n (wrap m x)

-- ---- operations that may trap: "Integer operations", where the specification leaves the result undefined

-- what an operator of two operands gives: a number, or a trap
pub data ArithOutcome : Type 0 where
  Number : ℕ → ArithOutcome
  IntegerDivisionByZero : ArithOutcome
  IntegerOverflow : ArithOutcome

-- the number, unless the divisor is 0
abbrev pub divided_by : ℕ → ℕ → ArithOutcome
divided_by y q = (if y == 0 then IntegerDivisionByZero else Number q)

-- idiv_u: the quotient, rounded down
abbrev pub idiv_u : ℕ → ℕ → ℕ → ArithOutcome
idiv_u n x y = divided_by y (x / y)

-- irem_u: the remainder of that division
abbrev pub irem_u : ℕ → ℕ → ℕ → ArithOutcome
irem_u n x y = divided_by y (x % y)

-- -2 ^ (n - 1) over -1: the one quotient that n bits do not hold
abbrev pub is_least_over_minus_one : ℕ → ℕ → ℕ → Bool
is_least_over_minus_one n x y = x == 2 ^ (n - 1) && y == 2 ^ n - 1

-- the signed quotient, rounded toward zero
abbrev pub quotient_s : ℕ → ℕ → ℕ → ℕ
quotient_s n x y = unsigned n (int_div (signed n x) (signed n y))

-- idiv_s: that quotient; the divisor 0, and the one quotient that does not fit, trap
abbrev pub idiv_s : ℕ → ℕ → ℕ → ArithOutcome
idiv_s n x y = (if is_least_over_minus_one n x y then IntegerOverflow else divided_by y (quotient_s n x y))

-- the remainder of that division, with the sign of the dividend
abbrev pub remainder_s : ℕ → ℕ → ℕ → ℕ
remainder_s n x y = unsigned n (int_rem (signed n x) (signed n y))

-- irem_s: that remainder; the divisor 0 traps, and no other operand does
abbrev pub irem_s : ℕ → ℕ → ℕ → ArithOutcome
irem_s n x y = divided_by y (remainder_s n x y)

-- ---- operators of two operands

-- what an operator does, whatever its width
pub data BinaryKind : Type 0 where
  Add : BinaryKind
  Sub : BinaryKind
  Mul : BinaryKind
  DivS : BinaryKind
  DivU : BinaryKind
  RemS : BinaryKind
  RemU : BinaryKind
  And : BinaryKind
  Or : BinaryKind
  Xor : BinaryKind
  Shl : BinaryKind
  ShrS : BinaryKind
  ShrU : BinaryKind
  Rotl : BinaryKind
  Rotr : BinaryKind
  Eq : BinaryKind
  Ne : BinaryKind
  LtS : BinaryKind
  LtU : BinaryKind
  GtS : BinaryKind
  GtU : BinaryKind
  LeS : BinaryKind
  LeU : BinaryKind
  GeS : BinaryKind
  GeU : BinaryKind

-- the width of each operator's operands in bits, and what it does
abbrev pub binary_shape : BinOp → ℕ × BinaryKind
binary_shape I32Add = (32, Add)
binary_shape I32Sub = (32, Sub)
binary_shape I32Mul = (32, Mul)
binary_shape I32DivS = (32, DivS)
binary_shape I32DivU = (32, DivU)
binary_shape I32RemS = (32, RemS)
binary_shape I32RemU = (32, RemU)
binary_shape I32And = (32, And)
binary_shape I32Or = (32, Or)
binary_shape I32Xor = (32, Xor)
binary_shape I32Shl = (32, Shl)
binary_shape I32ShrS = (32, ShrS)
binary_shape I32ShrU = (32, ShrU)
binary_shape I32Rotl = (32, Rotl)
binary_shape I32Rotr = (32, Rotr)
binary_shape I32Eq = (32, Eq)
binary_shape I32Ne = (32, Ne)
binary_shape I32LtS = (32, LtS)
binary_shape I32LtU = (32, LtU)
binary_shape I32GtS = (32, GtS)
binary_shape I32GtU = (32, GtU)
binary_shape I32LeS = (32, LeS)
binary_shape I32LeU = (32, LeU)
binary_shape I32GeS = (32, GeS)
binary_shape I32GeU = (32, GeU)
binary_shape I64Add = (64, Add)
binary_shape I64Sub = (64, Sub)
binary_shape I64Mul = (64, Mul)
binary_shape I64DivS = (64, DivS)
binary_shape I64DivU = (64, DivU)
binary_shape I64RemS = (64, RemS)
binary_shape I64RemU = (64, RemU)
binary_shape I64And = (64, And)
binary_shape I64Or = (64, Or)
binary_shape I64Xor = (64, Xor)
binary_shape I64Shl = (64, Shl)
binary_shape I64ShrS = (64, ShrS)
binary_shape I64ShrU = (64, ShrU)
binary_shape I64Rotl = (64, Rotl)
binary_shape I64Rotr = (64, Rotr)
binary_shape I64Eq = (64, Eq)
binary_shape I64Ne = (64, Ne)
binary_shape I64LtS = (64, LtS)
binary_shape I64LtU = (64, LtU)
binary_shape I64GtS = (64, GtS)
binary_shape I64GtU = (64, GtU)
binary_shape I64LeS = (64, LeS)
binary_shape I64LeU = (64, LeU)
binary_shape I64GeS = (64, GeS)
binary_shape I64GeU = (64, GeU)

-- the width of its operands in bits
abbrev pub binary_width : BinOp → ℕ
binary_width op = (binary_shape op).0

-- what it does
abbrev pub binary_kind : BinOp → BinaryKind
binary_kind op = (binary_shape op).1

-- what a kind of operator gives of two integers of n bits
abbrev pub arith_of : BinaryKind → ℕ → ℕ → ℕ → ArithOutcome
arith_of Add n x y = Number (iadd n x y)
arith_of Sub n x y = Number (isub n x y)
arith_of Mul n x y = Number (imul n x y)
arith_of DivS n x y = idiv_s n x y
arith_of DivU n x y = idiv_u n x y
arith_of RemS n x y = irem_s n x y
arith_of RemU n x y = irem_u n x y
arith_of And n x y = Number (bit_and x y)
arith_of Or n x y = Number (bit_or x y)
arith_of Xor n x y = Number (bit_xor x y)
arith_of Shl n x y = Number (ishl n x y)
arith_of ShrS n x y = Number (ishr_s n x y)
arith_of ShrU n x y = Number (ishr_u n x y)
arith_of Rotl n x y = Number (irotl n x y)
arith_of Rotr n x y = Number (irotr n x y)
arith_of Eq n x y = Number (truth (x == y))
arith_of Ne n x y = Number (truth (not (x == y)))
arith_of LtS n x y = Number (truth (int_lt (signed n x) (signed n y)))
arith_of LtU n x y = Number (truth (nat_lt x y))
arith_of GtS n x y = Number (truth (int_lt (signed n y) (signed n x)))
arith_of GtU n x y = Number (truth (nat_lt y x))
arith_of LeS n x y = Number (truth (int_le (signed n x) (signed n y)))
arith_of LeU n x y = Number (truth (nat_le x y))
arith_of GeS n x y = Number (truth (int_le (signed n y) (signed n x)))
arith_of GeU n x y = Number (truth (nat_le y x))

-- what an operator gives of its two operands
abbrev pub arith : BinOp → ℕ → ℕ → ArithOutcome
arith op x y = arith_of (binary_kind op) (binary_width op) x y

-- whether a kind of operator is a comparison
abbrev pub is_comparison : BinaryKind → Bool
is_comparison Eq = true
is_comparison Ne = true
is_comparison LtS = true
is_comparison LtU = true
is_comparison GtS = true
is_comparison GtU = true
is_comparison LeS = true
is_comparison LeU = true
is_comparison GeS = true
is_comparison GeU = true
is_comparison _ = false

-- the type of the integers of this width, 32 or 64
abbrev pub integer_type : ℕ → ValType
integer_type n = (if n == 32 then v.I32 else v.I64)

-- "Validation, Instructions, Numeric instructions": the type of both operands
abbrev pub binary_operands : BinOp → ValType
binary_operands op = integer_type (binary_width op)

-- the width of the result in bits
abbrev pub binary_result_width : BinOp → ℕ
binary_result_width op = (if is_comparison (binary_kind op) then 32 else binary_width op)

-- "Validation, Instructions, Numeric instructions": the type of the result
abbrev pub binary_result : BinOp → ValType
binary_result op = integer_type (binary_result_width op)

-- ---- operators of one operand

-- the widths of each operator's operand and of its result in bits
abbrev pub unary_widths : UnOp → ℕ × ℕ
unary_widths I64Clz = (64, 64)
unary_widths I64Ctz = (64, 64)
unary_widths I64Popcnt = (64, 64)
unary_widths I64Extend8S = (64, 64)
unary_widths I64Extend16S = (64, 64)
unary_widths I64Extend32S = (64, 64)
unary_widths I64Eqz = (64, 32)
unary_widths I32WrapI64 = (64, 32)
unary_widths I64ExtendI32S = (32, 64)
unary_widths I64ExtendI32U = (32, 64)
unary_widths _ = (32, 32)

-- the width of its operand in bits
abbrev pub unary_width : UnOp → ℕ
unary_width op = (unary_widths op).0

-- the width of its result in bits
abbrev pub unary_result_width : UnOp → ℕ
unary_result_width op = (unary_widths op).1

-- "Validation, Instructions, Numeric instructions": the types of the operand and of the result
abbrev pub unary_operand : UnOp → ValType
unary_operand op = integer_type (unary_width op)

abbrev pub unary_result : UnOp → ValType
unary_result op = integer_type (unary_result_width op)

-- what an operator gives of its operand
abbrev pub unary_arith : UnOp → ℕ → ℕ
unary_arith I32Clz x = iclz 32 x
unary_arith I64Clz x = iclz 64 x
unary_arith I32Ctz x = ictz 32 x
unary_arith I64Ctz x = ictz 64 x
unary_arith I32Popcnt x = count_ones x
unary_arith I64Popcnt x = count_ones x
unary_arith I32Eqz x = truth (x == 0)
unary_arith I64Eqz x = truth (x == 0)
unary_arith I32Extend8S x = iextend_s 8 32 x
unary_arith I64Extend8S x = iextend_s 8 64 x
unary_arith I32Extend16S x = iextend_s 16 32 x
unary_arith I64Extend16S x = iextend_s 16 64 x
unary_arith I64Extend32S x = iextend_s 32 64 x
unary_arith I32WrapI64 x = wrap 32 x
unary_arith I64ExtendI32S x = extend_s 32 64 x
unary_arith I64ExtendI32U x = x
