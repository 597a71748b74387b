-- Operands as JSON data: this project's own format.
use Rattle.std.specs.Prelude.{ℕ, List, Option, Some, None, option_map, codes, if◌then◌else◌}
use Rattle.std.specs.Str.{bytes_eq}
use Rattle.serde_json.specs.Data.{Data}
use Rattle.script_json.specs.Fields.{◌>>=◌, hex_vector, null, null_or, one_member, signed_32, signed_64, whole}
use Rattle.wasm_values.specs.Values.{vector}
use Rattle.wasm_values.specs.declared.references.AnyRef.{AnyRef}
use Rattle.wasm_values.specs.declared.references.ExternRef.{ExternRef}
use Rattle.wasm_values.specs.declared.values.V128.{V128}
use Rattle.wasm_values.specs.declared.values.Val.{Val}
use Rattle.wasm_values.specs.declared.values.Val.TheVariants as v
use Rattle.spec_machine.specs.Values.{any_of}
use Rattle.spec_machine.specs.declared.name.Operand.{Operand}
use Rattle.spec_machine.specs.declared.name.Operand.TheVariants as operand
use Rattle.script_commands.specs.Names.{name_of}
use Rattle.script_types.specs.Types.{whole_32}
use Rattle.script_commands.specs.declared.operands.OperandKind.{OperandKind}
use Rattle.script_commands.specs.declared.operands.OperandKind.TheVariants as kind

abbrev pub operand_kind_of : List ℕ → Option OperandKind
operand_kind_of key =
    if bytes_eq key (codes "i32") then Some kind.I32 else
    (if bytes_eq key (codes "i64") then Some kind.I64 else
    (if bytes_eq key (codes "f32") then Some kind.F32 else
    (if bytes_eq key (codes "f64") then Some kind.F64 else
    (if bytes_eq key (codes "v128") then Some kind.V128 else
    (if bytes_eq key (codes "func") then Some kind.Func else
    (if bytes_eq key (codes "extern") then Some kind.Extern else
    (if bytes_eq key (codes "any") then Some kind.Any else
    (if bytes_eq key (codes "name") then Some kind.Name else None))))))))

abbrev pub vector_of : Data → Option V128
vector_of d = hex_vector d >>= (λ bits. Some (vector bits))

-- a reference to data of the host: any number of 64 bits, or null
abbrev pub extern_of : ℕ → ExternRef
extern_of n = record { 0 = n }

abbrev pub extern_val_of : Data → Option Val
extern_val_of d = null_or whole d >>= (λ n. Some (v.ExternRef (option_map extern_of n)))

-- a reference to a number of 31 bits
abbrev pub any_ref_of : Data → Option AnyRef
any_ref_of d = whole d >>= any_of

abbrev pub given : Val → Option Operand
given val = Some (operand.Val val)

abbrev pub operand_by : Data → OperandKind → Option Operand
operand_by d kind.I32 = signed_32 d >>= (λ n. given (v.I32 n))
operand_by d kind.I64 = signed_64 d >>= (λ n. given (v.I64 n))
operand_by d kind.F32 = whole_32 d >>= (λ bits. given (v.F32 bits))
operand_by d kind.F64 = whole d >>= (λ bits. given (v.F64 bits))
operand_by d kind.V128 = vector_of d >>= (λ bits. given (v.V128 bits))
operand_by d kind.Func = null d >>= (λ _. given (v.FuncRef None))
operand_by d kind.Extern = extern_val_of d >>= given
operand_by d kind.Any = null_or any_ref_of d >>= (λ a. given (v.AnyRef a))
operand_by d kind.Name = name_of d >>= (λ name. Some (operand.Named name))

-- an operand is an object of one member, whose key is its kind: a number, the bits of a float or of a vector, null or the
-- number of a reference, or a name
abbrev pub operand_of : Data → Option Operand
operand_of d = one_member d >>= (λ m. operand_kind_of m.0 >>= operand_by m.1)
