-- Constant expressions as JSON data: an array of the name and one immediate. This project's own format; the names are
-- those of the text format, but for those of floats and vectors.
use Rattle.std.specs.Prelude.{ℕ, List, Option, Some, None, codes, if◌then◌else◌}
use Rattle.std.specs.Str.{bytes_eq}
use Rattle.serde_json.specs.Data.{Data}
use Rattle.wasm_types.specs.declared.plain.HeapTopType.{HeapTopType}
use Rattle.wasm_types.specs.declared.plain.HeapTopType.TheVariants as top
use Rattle.script_json.specs.Fields.{◌>>=◌, hex_vector, signed_32, signed_64, text, whole}
use Rattle.script_types.specs.Types.{whole_32}
use Rattle.wasm_syntax.specs.declared.constants.ConstExpr.{ConstExpr}
use Rattle.wasm_syntax.specs.declared.constants.ConstExpr.TheVariants as const
use Rattle.script_modules.specs.Immediates.{head, one_immediate}
use Rattle.script_modules.specs.declared.constants.ConstantName.{ConstantName}
use Rattle.script_modules.specs.declared.constants.ConstantName.TheVariants as called

abbrev pub name_of : List ℕ → Option ConstantName
name_of name =
    if bytes_eq name (codes "i32.const") then Some called.I32 else
    (if bytes_eq name (codes "i64.const") then Some called.I64 else
    (if bytes_eq name (codes "f32.bits") then Some called.F32 else
    (if bytes_eq name (codes "f64.bits") then Some called.F64 else
    (if bytes_eq name (codes "v128.hex") then Some called.V128 else
    (if bytes_eq name (codes "ref.null") then Some called.RefNull else
    (if bytes_eq name (codes "ref.func") then Some called.RefFunc else
    (if bytes_eq name (codes "global.get") then Some called.GlobalGet else None)))))))

-- the heap types that no other is above
abbrev pub heap_top_named : List ℕ → Option HeapTopType
heap_top_named name =
    if bytes_eq name (codes "func") then Some top.Func else
    (if bytes_eq name (codes "extern") then Some top.Extern else
    (if bytes_eq name (codes "any") then Some top.Any else None))

abbrev pub heap_top_of : Data → Option HeapTopType
heap_top_of d = text d >>= heap_top_named

-- an integer modulo its width, the bits of a float or of a vector, a null of one of the three heap types, or the index
-- of a function or of a global
abbrev pub constant_by : Data → ConstantName → Option ConstExpr
constant_by d called.I32 = signed_32 d >>= (λ n. Some (const.I32 n))
constant_by d called.I64 = signed_64 d >>= (λ n. Some (const.I64 n))
constant_by d called.F32 = whole_32 d >>= (λ bits. Some (const.F32 bits))
constant_by d called.F64 = whole d >>= (λ bits. Some (const.F64 bits))
constant_by d called.V128 = hex_vector d >>= (λ bits. Some (const.V128 bits))
constant_by d called.RefNull = heap_top_of d >>= (λ t. Some (const.RefNull t))
constant_by d called.RefFunc = whole_32 d >>= (λ f. Some (const.RefFunc f))
constant_by d called.GlobalGet = whole_32 d >>= (λ g. Some (const.GlobalGet g))

-- the constant expression that the data spells
abbrev pub constant_of : Data → Option ConstExpr
constant_of d = do
  word ← head d
  name ← name_of word
  immediate ← one_immediate d
  constant_by immediate name
