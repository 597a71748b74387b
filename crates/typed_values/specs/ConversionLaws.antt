-- Laws of the conversions.
use Rattle.std.specs.Prelude.{ℕ, ◌^◌, ◌<◌, ◌≡◌, refl, Bool, true, false, Option, Some, None, is_some}
use Rattle.std.proofs.Common.{ap}
use Rattle.std.proofs.lemmas.Int.{of_z-to_z}
use Rattle.std.specs.Int.{w32, w64, cast_signed}
use Rattle.wasm_types.specs.Matching.{ref_matches}
use Rattle.wasm_types.specs.FunctionParts.{ref_type}
use Rattle.wasm_types.specs.Signatures.{Signature}
use Rattle.spec_machine.specs.Machine.{Machine}
use Rattle.spec_machine.specs.Values.{val_fits, concrete, function_type}
use Rattle.wasm_values.specs.Handles.{func_index}
use Rattle.wasm_values.specs.Values.{val_i32, val_i64}
use Rattle.typed_values.specs.StaticTypes.{is_of_kind, an_i32, an_i64, a_func, a_func_or_null, a_null_func}
use Rattle.typed_values.specs.Conversions.{func_type, null_func_type, null_no_func_type, val_u32, val_u64, val_func, val_func_or_null, of_null_no_func, val_null_no_func}
use Rattle.wasm_values.specs.declared.handles.Func.{Func}
use Rattle.wasm_values.specs.declared.references.NoFunc.{NoFunc}
use Rattle.wasm_types.specs.declared.value_types.HeapType.TheVariants as h
use Rattle.wasm_types.specs.declared.value_types.ValType.TheVariants as t
use Rattle.wasm_values.specs.declared.values.Val.{Val}
use Rattle.wasm_values.specs.declared.values.Val.TheVariants as v

pub i32_kind : (val : Val) → is_some (val_i32 val) ≡ is_of_kind an_i32 val
i32_kind (v.I32 n) = refl
i32_kind (v.I64 n) = refl
i32_kind (v.FuncRef f) = refl
i32_kind _ = refl

pub i32_each : (m : Machine) (val : Val) → val_fits m val t.I32 ≡ true → is_some (val_i32 val) ≡ true
i32_each m (v.I32 n) fits = refl
i32_each m (v.I64 n) fits = fits
i32_each m (v.FuncRef f) fits = fits
i32_each m _ fits = fits

pub i64_kind : (val : Val) → is_some (val_i64 val) ≡ is_of_kind an_i64 val
i64_kind (v.I32 n) = refl
i64_kind (v.I64 n) = refl
i64_kind (v.FuncRef f) = refl
i64_kind _ = refl

pub i64_each : (m : Machine) (val : Val) → val_fits m val t.I64 ≡ true → is_some (val_i64 val) ≡ true
i64_each m (v.I32 n) fits = fits
i64_each m (v.I64 n) fits = refl
i64_each m (v.FuncRef f) fits = fits
i64_each m _ fits = fits

-- the bits stay
pub u32_back : (n : ℕ) → n < 2 ^ 32 → val_u32 (v.I32 (cast_signed w32 n)) ≡ Some n
u32_back n small = ap Some (of_z-to_z w32 n small)

pub u32_kind : (val : Val) → is_some (val_u32 val) ≡ is_of_kind an_i32 val
u32_kind (v.I32 n) = refl
u32_kind (v.I64 n) = refl
u32_kind (v.FuncRef f) = refl
u32_kind _ = refl

pub u32_each : (m : Machine) (val : Val) → val_fits m val t.I32 ≡ true → is_some (val_u32 val) ≡ true
u32_each m (v.I32 n) fits = refl
u32_each m (v.I64 n) fits = fits
u32_each m (v.FuncRef f) fits = fits
u32_each m _ fits = fits

pub u64_back : (n : ℕ) → n < 2 ^ 64 → val_u64 (v.I64 (cast_signed w64 n)) ≡ Some n
u64_back n small = ap Some (of_z-to_z w64 n small)

pub u64_kind : (val : Val) → is_some (val_u64 val) ≡ is_of_kind an_i64 val
u64_kind (v.I32 n) = refl
u64_kind (v.I64 n) = refl
u64_kind (v.FuncRef f) = refl
u64_kind _ = refl

pub u64_each : (m : Machine) (val : Val) → val_fits m val t.I64 ≡ true → is_some (val_u64 val) ≡ true
u64_each m (v.I32 n) fits = fits
u64_each m (v.I64 n) fits = refl
u64_each m (v.FuncRef f) fits = fits
u64_each m _ fits = fits

pub func_kind : (val : Val) → is_some (val_func val) ≡ is_of_kind a_func val
func_kind (v.I32 n) = refl
func_kind (v.I64 n) = refl
func_kind (v.FuncRef None) = refl
func_kind (v.FuncRef (Some f)) = refl
func_kind _ = refl

-- a function of one type is one of all functions
concrete_fits : (b : Bool) (found : Option Signature) → ref_matches (ref_type false (concrete found)) (ref_type b h.Func) ≡ true
concrete_fits b None = refl
concrete_fits b (Some n) = refl

concrete_misfits : (b : Bool) (found : Option Signature) → ref_matches (ref_type false (concrete found)) (ref_type b h.NoFunc) ≡ true → false ≡ true
concrete_misfits b None fits = fits
concrete_misfits b (Some n) fits = fits

pub func_fits : (m : Machine) (f : Func) → val_fits m (v.FuncRef (Some f)) func_type ≡ true
func_fits m f = concrete_fits false (function_type m (func_index f))

pub func_each : (m : Machine) (val : Val) → val_fits m val func_type ≡ true → is_some (val_func val) ≡ true
func_each m (v.I32 n) fits = fits
func_each m (v.I64 n) fits = fits
func_each m (v.FuncRef None) fits = fits
func_each m (v.FuncRef (Some f)) fits = refl
func_each m (v.ExternRef None) fits = fits
func_each m (v.ExternRef (Some e)) fits = fits
func_each m (v.AnyRef None) fits = fits
func_each m (v.AnyRef (Some a)) fits = fits
func_each m _ fits = fits

pub func_or_null_kind : (val : Val) → is_some (val_func_or_null val) ≡ is_of_kind a_func_or_null val
func_or_null_kind (v.I32 n) = refl
func_or_null_kind (v.I64 n) = refl
func_or_null_kind (v.FuncRef f) = refl
func_or_null_kind _ = refl

pub func_or_null_fits : (m : Machine) (f : Option Func) → val_fits m (v.FuncRef f) null_func_type ≡ true
func_or_null_fits m None = refl
func_or_null_fits m (Some f) = concrete_fits true (function_type m (func_index f))

pub func_or_null_each : (m : Machine) (val : Val) → val_fits m val null_func_type ≡ true → is_some (val_func_or_null val) ≡ true
func_or_null_each m (v.I32 n) fits = fits
func_or_null_each m (v.I64 n) fits = fits
func_or_null_each m (v.FuncRef f) fits = refl
func_or_null_each m (v.ExternRef None) fits = fits
func_or_null_each m (v.ExternRef (Some e)) fits = fits
func_or_null_each m (v.AnyRef None) fits = fits
func_or_null_each m (v.AnyRef (Some a)) fits = fits
func_or_null_each m _ fits = fits

-- of a type without values all holds
none_of_no_func : (f : NoFunc) → val_null_no_func (of_null_no_func (Some f)) ≡ Some (Some f)
none_of_no_func = elim [ ]

pub null_no_func_back : (f : Option NoFunc) → Unit {0} → val_null_no_func (of_null_no_func f) ≡ Some f
null_no_func_back None _ = refl
null_no_func_back (Some f) _ = none_of_no_func f

pub null_no_func_kind : (val : Val) → is_some (val_null_no_func val) ≡ is_of_kind a_null_func val
null_no_func_kind (v.I32 n) = refl
null_no_func_kind (v.I64 n) = refl
null_no_func_kind (v.FuncRef None) = refl
null_no_func_kind (v.FuncRef (Some f)) = refl
null_no_func_kind _ = refl

pub null_no_func_each : (m : Machine) (val : Val) → val_fits m val null_no_func_type ≡ true → is_some (val_null_no_func val) ≡ true
null_no_func_each m (v.I32 n) fits = fits
null_no_func_each m (v.I64 n) fits = fits
null_no_func_each m (v.FuncRef None) fits = refl
null_no_func_each m (v.FuncRef (Some f)) fits = concrete_misfits true (function_type m (func_index f)) fits
null_no_func_each m (v.ExternRef None) fits = fits
null_no_func_each m (v.ExternRef (Some e)) fits = fits
null_no_func_each m (v.AnyRef None) fits = fits
null_no_func_each m (v.AnyRef (Some a)) fits = fits
null_no_func_each m _ fits = fits
