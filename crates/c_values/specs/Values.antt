-- Values as C has them: a kind, and 128 bits in two halves. This project's own.
use Rattle.std.specs.Prelude.{ℕ, ◌+◌, ◌*◌, ◌/◌, ◌%◌, ◌^◌, ◌&&◌, nat_eq, nat_lt, Bool, if◌then◌else◌, Option, Some, None, is_some, option_and_then, option_map}
use Rattle.std.specs.Int.{w32, w64, cast_signed, cast_unsigned}
use Rattle.wasm_values.specs.Values.{vector}
use Rattle.wasm_values.specs.declared.values.V128.{V128}
use Rattle.wasm_values.specs.declared.values.Val.{Val}
use Rattle.wasm_values.specs.declared.values.Val.TheVariants as v
use Rattle.c_values.specs.Kinds.{kind_of, number}
use Rattle.c_values.specs.declared.c_value.CValue.{CValue}
use Rattle.c_values.specs.declared.c_value.Kind.{Kind}
use Rattle.c_values.specs.declared.c_value.Kind.TheVariants as k

-- 32 bits, 64 bits, and 128, where no other bit is set
abbrev pub narrow : ℕ → ℕ → Option ℕ
narrow low high = if nat_eq high 0 && nat_lt low (2 ^ 32) then Some low else None

abbrev pub wide : ℕ → ℕ → Option ℕ
wide low high = if nat_eq high 0 then Some low else None

abbrev pub whole : ℕ → ℕ → ℕ
whole low high = high * 2 ^ 64 + low

-- a null reference has no bit set
abbrev pub null : Val → ℕ → ℕ → Option Val
null reference low high = if nat_eq high 0 && nat_eq low 0 then Some reference else None

-- the value of a kind: an integer is the signed number of its bits
abbrev pub value_of : Kind → ℕ → ℕ → Option Val
value_of k.I32 low high = option_map (λ n. v.I32 (cast_signed w32 n)) (narrow low high)
value_of k.I64 low high = option_map (λ n. v.I64 (cast_signed w64 n)) (wide low high)
value_of k.F32 low high = option_map v.F32 (narrow low high)
value_of k.F64 low high = option_map v.F64 (wide low high)
value_of k.V128 low high = Some (v.V128 (vector (whole low high)))
value_of k.Func low high = null (v.FuncRef None) low high
value_of k.Extern low high = null (v.ExternRef None) low high
value_of k.Any low high = null (v.AnyRef None) low high

-- the value that C gave
abbrev pub value_in : CValue → Option Val
value_in given = option_and_then (λ kind. value_of kind given.low given.high) (kind_of given.kind)

-- and as C is given it
abbrev pub parts : Kind → ℕ → ℕ → CValue
parts kind low high = record { kind = number kind; low = low; high = high }

abbrev pub halves : V128 → CValue
halves bits = parts k.V128 (bits.0 % 2 ^ 64) (bits.0 / 2 ^ 64)

-- a reference tells whether it is null
abbrev pub reference : Kind → Bool → CValue
reference kind is_there = parts kind (if is_there then 1 else 0) 0

abbrev pub value_out : Val → CValue
value_out (v.I32 n) = parts k.I32 (cast_unsigned w32 n) 0
value_out (v.I64 n) = parts k.I64 (cast_unsigned w64 n) 0
value_out (v.F32 bits) = parts k.F32 bits 0
value_out (v.F64 bits) = parts k.F64 bits 0
value_out (v.V128 bits) = halves bits
value_out (v.FuncRef func) = reference k.Func (is_some func)
value_out (v.ExternRef host) = reference k.Extern (is_some host)
value_out (v.AnyRef any) = reference k.Any (is_some any)
