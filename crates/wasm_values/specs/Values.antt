-- Values, by cases: WebAssembly core specification, "Execution, runtime structure, values". A float is held by its bits.
use Rattle.std.specs.Prelude.{ℕ, ℤ, pos, Option, Some, None, if◌then◌else◌}
use Rattle.wasm_types.specs.FunctionParts.{is_nullable, heap_type}
use Rattle.wasm_types.specs.Matching.{heap_top}
use Rattle.wasm_types.specs.declared.value_types.ValType.{ValType}
use Rattle.wasm_types.specs.declared.value_types.ValType.TheVariants as t
use Rattle.wasm_values.specs.References.{null_of}
use Rattle.wasm_values.specs.declared.handles.Func.{Func}
use Rattle.wasm_values.specs.declared.references.AnyRef.{AnyRef}
use Rattle.wasm_values.specs.declared.references.ExternRef.{ExternRef}
use Rattle.wasm_values.specs.declared.references.Ref.{Ref}
use Rattle.wasm_values.specs.declared.references.Ref.TheVariants as r
use Rattle.wasm_values.specs.declared.values.V128.{V128}
use Rattle.wasm_values.specs.declared.values.Val.{Val}
use Rattle.wasm_values.specs.declared.values.Val.TheVariants as v

-- a vector of these bits
abbrev pub vector : ℕ → V128
vector bits = record { 0 = bits }

-- a reference as a value, and a value as a reference where it is one
abbrev pub val_of : Ref → Val
val_of (r.Func f) = v.FuncRef f
val_of (r.Extern e) = v.ExternRef e
val_of (r.Any a) = v.AnyRef a

abbrev pub val_ref : Val → Option Ref
val_ref (v.FuncRef f) = Some (r.Func f)
val_ref (v.ExternRef e) = Some (r.Extern e)
val_ref (v.AnyRef a) = Some (r.Any a)
val_ref _ = None

-- the value that a local of a type begins with: zero, null, or none where the type is a reference that is not nullable
-- "Execution, runtime structure, values", default values
abbrev pub default_of : ValType → Option Val
default_of t.I32 = Some (v.I32 (pos 0))
default_of t.I64 = Some (v.I64 (pos 0))
default_of t.F32 = Some (v.F32 0)
default_of t.F64 = Some (v.F64 0)
default_of t.V128 = Some (v.V128 (vector 0))
default_of (t.Ref ty) =
    if is_nullable ty then Some (val_of (null_of (heap_top (heap_type ty)))) else None

-- what a value of one kind holds, and nothing of the others
abbrev pub val_i32 : Val → Option ℤ
val_i32 (v.I32 n) = Some n
val_i32 _ = None

abbrev pub val_i64 : Val → Option ℤ
val_i64 (v.I64 n) = Some n
val_i64 _ = None

abbrev pub val_v128 : Val → Option V128
val_v128 (v.V128 bits) = Some bits
val_v128 _ = None

abbrev pub val_func_ref : Val → Option (Option Func)
val_func_ref (v.FuncRef f) = Some f
val_func_ref _ = None

abbrev pub val_extern_ref : Val → Option (Option ExternRef)
val_extern_ref (v.ExternRef e) = Some e
val_extern_ref _ = None

abbrev pub val_any_ref : Val → Option (Option AnyRef)
val_any_ref (v.AnyRef a) = Some a
val_any_ref _ = None
