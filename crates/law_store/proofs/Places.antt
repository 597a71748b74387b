-- What is set in a place is what is read there.
use Rattle.std.proofs.Common.{◌≡◌, ◌^◌, Bool, true, false, ltb, Some, None, refl, sym, ap, ◌∙◌, true≢false}
use Rattle.std.proofs.lemmas.Bool.{ltb-true, lt-ltb, eq-eqb}
use Rattle.wasm_types.specs.FunctionParts.{heap_type}
use Rattle.wasm_types.specs.Matching.{heap_top, is_func, is_extern, is_any}
use Rattle.wasm_types.specs.EqualityLaws.{both}
use Rattle.wasm_types.proofs.MatchingLemmas.{no}
use Rattle.wasm_types.specs.declared.plain.HeapTopType.{HeapTopType}
use Rattle.wasm_types.specs.declared.plain.HeapTopType.TheVariants as top
use Rattle.wasm_types.specs.declared.value_types.RefType.{RefType}
use Rattle.wasm_types.specs.declared.value_types.ValType.{ValType}
use Rattle.wasm_types.specs.declared.value_types.ValType.TheVariants as t
use Rattle.wasm_values.specs.Handles.{func_of, func_store, func_index}
use Rattle.wasm_values.specs.References.{i31, null_of}
use Rattle.wasm_values.specs.StoreIds.{number}
use Rattle.wasm_values.specs.Values.{val_of}
use Rattle.wasm_values.specs.declared.handles.Func.{Func}
use Rattle.wasm_values.specs.declared.references.AnyRef.{AnyRef}
use Rattle.wasm_values.specs.declared.references.Ref.{Ref}
use Rattle.wasm_values.specs.declared.references.Ref.TheVariants as r
use Rattle.wasm_values.specs.declared.store_id.StoreId.{StoreId}
use Rattle.wasm_values.specs.declared.values.Val.{Val}
use Rattle.wasm_values.specs.declared.values.Val.TheVariants as v
use Rattle.wasm_values.proofs.EqualityLemmas.{any_exact, id_exact}
use Rattle.spec_machine.specs.Machine.{Machine}
use Rattle.spec_machine.specs.Values.{any_by, any_of, ref_at, raw_ref, val_at, raw_val, is_id, owns_ref, owns_val, ref_fits, val_fits, raw_ref_fits, raw_val_fits}
use Rattle.spec_machine.specs.WellFormed.{is_raw_ref, is_raw_val}

-- a reference to a number of 31 bits is the one to that number
any_by_back : (a : AnyRef) (b : Bool) (p : ltb (i31 a) (2 ^ 31) ≡ b) → any_by (i31 a) b p ≡ Some a
any_by_back a true p = ap Some
    ((any_exact (record { value = i31 a; small = ltb-true (i31 a) (2 ^ 31) p }) a).0 (eq-eqb (i31 a) (i31 a) refl))
any_by_back a false p = absurd (true≢false (sym (lt-ltb (i31 a) (2 ^ 31) a.small) ∙ p))

pub any_back : (a : AnyRef) → any_of (i31 a) ≡ Some a
any_back a = any_by_back a (ltb (i31 a) (2 ^ 31)) refl

-- stores of one number are one
pub id_back : (a b : StoreId) → is_id a b ≡ true → a ≡ b
id_back a b p = (id_exact a b).0 p

pub id_own : (a : StoreId) → is_id a a ≡ true
id_own a = eq-eqb (number a) (number a) refl

func_back : (id : StoreId) (f : Func) → is_id (func_store f) id ≡ true → func_of id (func_index f) ≡ f
func_back id f p = ap (λ a. func_of a (func_index f)) (sym (id_back (func_store f) id p))

-- a null fits only types below its own greatest type
func_null : (g : HeapTopType) → is_func g ≡ true → null_of g ≡ r.Func None
func_null top.Func p = refl
func_null top.Extern p = no p
func_null top.Any p = no p

extern_null : (g : HeapTopType) → is_extern g ≡ true → null_of g ≡ r.Extern None
extern_null top.Func p = no p
extern_null top.Extern p = refl
extern_null top.Any p = no p

any_null : (g : HeapTopType) → is_any g ≡ true → null_of g ≡ r.Any None
any_null top.Func p = no p
any_null top.Extern p = no p
any_null top.Any p = refl

-- a reference that fits a type is read from a place of the type as it was set
pub ref_back : (m : Machine) (r : Ref) (ty : RefType) → owns_ref m r ≡ true → ref_fits m r ty ≡ true →
    ref_at m.id (heap_top (heap_type ty)) (raw_ref r) ≡ r
ref_back m (r.Func None) ty o p = func_null (heap_top (heap_type ty)) (both _ _ p).0
ref_back m (r.Func (Some f)) ty o p = ap (λ g. r.Func (Some g)) (func_back m.id f (both _ _ o).0)
ref_back m (r.Extern None) ty o p = extern_null (heap_top (heap_type ty)) (both _ _ p).0
ref_back m (r.Extern (Some e)) ty o p = refl
ref_back m (r.Any None) ty o p = any_null (heap_top (heap_type ty)) (both _ _ p).0
ref_back m (r.Any (Some a)) ty o p = ap r.Any (any_back a)

-- so is a value
pub val_back : (m : Machine) (v : Val) (ty : ValType) → owns_val m v ≡ true → val_fits m v ty ≡ true →
    val_at m.id ty (raw_val v) ≡ v
val_back m (v.I32 n) ty o p = refl
val_back m (v.I64 n) ty o p = refl
val_back m (v.F32 n) ty o p = refl
val_back m (v.F64 n) ty o p = refl
val_back m (v.V128 bits) ty o p = refl
val_back m (v.FuncRef f) (t.Ref ty) o p = ap val_of (ref_back m (r.Func f) ty o p)
val_back m (v.FuncRef f) _ o p = no p
val_back m (v.ExternRef e) (t.Ref ty) o p = ap val_of (ref_back m (r.Extern e) ty o p)
val_back m (v.ExternRef e) _ o p = no p
val_back m (v.AnyRef a) (t.Ref ty) o p = ap val_of (ref_back m (r.Any a) ty o p)
val_back m (v.AnyRef a) _ o p = no p

-- what is set in a place is there, and fits
pub raw_ref_there : (m : Machine) (r : Ref) → owns_ref m r ≡ true → is_raw_ref m (raw_ref r) ≡ true
raw_ref_there m (r.Func None) o = refl
raw_ref_there m (r.Func (Some f)) o = (both _ _ o).1
raw_ref_there m (r.Extern None) o = refl
raw_ref_there m (r.Extern (Some e)) o = refl
raw_ref_there m (r.Any None) o = refl
raw_ref_there m (r.Any (Some a)) o = lt-ltb (i31 a) (2 ^ 31) a.small

pub raw_val_there : (m : Machine) (v : Val) → owns_val m v ≡ true → is_raw_val m (raw_val v) ≡ true
raw_val_there m (v.I32 n) o = refl
raw_val_there m (v.I64 n) o = refl
raw_val_there m (v.F32 n) o = refl
raw_val_there m (v.F64 n) o = refl
raw_val_there m (v.V128 bits) o = refl
raw_val_there m (v.FuncRef f) o = raw_ref_there m (r.Func f) o
raw_val_there m (v.ExternRef e) o = raw_ref_there m (r.Extern e) o
raw_val_there m (v.AnyRef a) o = raw_ref_there m (r.Any a) o

pub raw_ref_set_fits : (m : Machine) (r : Ref) (ty : RefType) → owns_ref m r ≡ true → ref_fits m r ty ≡ true →
    raw_ref_fits m (raw_ref r) ty ≡ true
raw_ref_set_fits m r ty o p = ap (λ q. ref_fits m q ty) (ref_back m r ty o p) ∙ p

pub raw_val_set_fits : (m : Machine) (v : Val) (ty : ValType) → owns_val m v ≡ true → val_fits m v ty ≡ true →
    raw_val_fits m (raw_val v) ty ≡ true
raw_val_set_fits m v ty o p = ap (λ q. val_fits m q ty) (val_back m v ty o p) ∙ p
