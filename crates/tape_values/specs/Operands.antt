-- Names, values and operands as JSON data, as they are written: in the form in which scripts have them, and a function by its
-- handle. This project's own format.
use Rattle.std.specs.Prelude.{◌^◌, ◌<◌, true, codes, Option, Some, None, FitsSigned}
use Rattle.std.specs.Int.{w32, w64, w128, to_be_bytes}
use Rattle.hex.specs.Hex.{encode_lower}
use Rattle.serde_json.specs.Data as json
use Rattle.serde_json.specs.Data.{Data}
use Rattle.wasm_values.specs.Handles.{func_store, func_index}
use Rattle.wasm_values.specs.References.{i31}
use Rattle.wasm_values.specs.StoreIds.{number}
use Rattle.wasm_values.specs.declared.handles.Func.{Func}
use Rattle.wasm_values.specs.declared.references.AnyRef.{AnyRef}
use Rattle.wasm_values.specs.declared.references.ExternRef.{ExternRef}
use Rattle.wasm_values.specs.declared.values.V128.{V128}
use Rattle.wasm_values.specs.declared.values.Val.{Val}
use Rattle.wasm_values.specs.declared.values.Val.TheVariants as v
use Rattle.spec_machine.specs.declared.name.Name.{Name}
use Rattle.spec_machine.specs.declared.name.Name.TheVariants as name
use Rattle.spec_machine.specs.declared.name.Operand.{Operand}
use Rattle.spec_machine.specs.declared.name.Operand.TheVariants as operand
use Rattle.tape_values.specs.Writing.{whole_data, integer_data, text_data, one_data, two_data}

abbrev pub name_data : Name → Data
name_data (name.Reply place) = whole_data place
name_data (name.Value place index) = one_data (codes "value") (two_data (whole_data place) (whole_data index))
name_data (name.Arg place) = one_data (codes "arg") (whole_data place)
name_data (name.Stored place) = one_data (codes "stored") (whole_data place)
name_data name.Caller = one_data (codes "caller") (json.boolean true)

-- the bits of a vector as 32 hexadecimal digits, the highest first
abbrev pub vector_data : V128 → Data
vector_data bits = text_data (encode_lower (to_be_bytes w128 bits.0))

-- a function, by the number of its store's id and its place in the store
abbrev pub handle_data : Func → Data
handle_data f = two_data (whole_data (number (func_store f))) (whole_data (func_index f))

abbrev pub func_data : Option Func → Data
func_data None = json.null
func_data (Some f) = handle_data f

abbrev pub extern_data : Option ExternRef → Data
extern_data None = json.null
extern_data (Some e) = whole_data e.0

abbrev pub any_data : Option AnyRef → Data
any_data None = json.null
any_data (Some a) = whole_data (i31 a)

abbrev pub val_data : Val → Data
val_data (v.I32 n) = one_data (codes "i32") (integer_data n)
val_data (v.I64 n) = one_data (codes "i64") (integer_data n)
val_data (v.F32 bits) = one_data (codes "f32") (whole_data bits)
val_data (v.F64 bits) = one_data (codes "f64") (whole_data bits)
val_data (v.V128 bits) = one_data (codes "v128") (vector_data bits)
val_data (v.FuncRef f) = one_data (codes "func") (func_data f)
val_data (v.ExternRef e) = one_data (codes "extern") (extern_data e)
val_data (v.AnyRef a) = one_data (codes "any") (any_data a)

abbrev pub operand_data : Operand → Data
operand_data (operand.Val val) = val_data val
operand_data (operand.Named named) = one_data (codes "name") (name_data named)

-- each number in a value is one of its type

abbrev pub ValInRange : Val → Type 0
ValInRange (v.I32 n) = FitsSigned w32 n
ValInRange (v.I64 n) = FitsSigned w64 n
ValInRange (v.F32 bits) = bits < 2 ^ 32
ValInRange (v.V128 bits) = bits.0 < 2 ^ 128
ValInRange _ = Unit {0}

abbrev pub OperandInRange : Operand → Type 0
OperandInRange (operand.Val val) = ValInRange val
OperandInRange (operand.Named named) = Unit {0}
