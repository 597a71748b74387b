-- References, by cases: WebAssembly core specification, "Execution, runtime structure, values". That a reference to
-- data of WebAssembly is a number below 2^31, and one to data of the host any number, is this project's own.
use Rattle.std.specs.Prelude.{ℕ, Bool, true, false, Option, Some, None}
use Rattle.std.specs.Prelude.{is_none}
use Rattle.wasm_types.specs.declared.plain.HeapTopType.{HeapTopType}
use Rattle.wasm_types.specs.declared.plain.HeapTopType.TheVariants as top
use Rattle.wasm_values.specs.declared.handles.Func.{Func}
use Rattle.wasm_values.specs.declared.references.AnyRef.{AnyRef}
use Rattle.wasm_values.specs.declared.references.ExternRef.{ExternRef}
use Rattle.wasm_values.specs.declared.references.Ref.{Ref}
use Rattle.wasm_values.specs.declared.references.Ref.TheVariants as r

-- the number that a reference to data of WebAssembly holds
abbrev pub i31 : AnyRef → ℕ
i31 a = a.value

-- the null of each of the three greatest heap types
abbrev pub null_of : HeapTopType → Ref
null_of top.Func = r.Func None
null_of top.Extern = r.Extern None
null_of top.Any = r.Any None

abbrev pub is_null : Ref → Bool
is_null (r.Func f) = is_none f
is_null (r.Extern e) = is_none e
is_null (r.Any a) = is_none a

abbrev pub is_func : Ref → Bool
is_func (r.Func f) = true
is_func _ = false

abbrev pub is_extern : Ref → Bool
is_extern (r.Extern e) = true
is_extern _ = false

abbrev pub is_any : Ref → Bool
is_any (r.Any a) = true
is_any _ = false

-- what a reference of one of the three kinds holds, and nothing of the others
abbrev pub ref_func : Ref → Option (Option Func)
ref_func (r.Func f) = Some f
ref_func _ = None

abbrev pub ref_extern : Ref → Option (Option ExternRef)
ref_extern (r.Extern e) = Some e
ref_extern _ = None

abbrev pub ref_any : Ref → Option (Option AnyRef)
ref_any (r.Any a) = Some a
ref_any _ = None
