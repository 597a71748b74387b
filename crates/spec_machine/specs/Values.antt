-- Values as the objects of a store hold them and as a host handles them; their types; and what belongs to a store.
-- WebAssembly core specification, "Execution, runtime structure, values" and "Validity, values"
use Rattle.std.specs.Prelude.{ℕ, ◌^◌, ◌≡◌, Bool, true, false, ◌&&◌, List, [], ◌∷◌, length, nat_eq, nat_lt, option_and_then, Option, Some, None, refl, slice_get}
use Rattle.std.proofs.lemmas.Bool.{ltb-true}
use Rattle.wasm_types.specs.Signatures.{Signature}
use Rattle.wasm_types.specs.FunctionParts.{heap_type, nullable_ref, ref_type}
use Rattle.wasm_types.specs.Matching.{heap_top, ref_matches, val_matches}
use Rattle.wasm_types.specs.declared.plain.HeapTopType.{HeapTopType}
use Rattle.wasm_types.specs.declared.plain.HeapTopType.TheVariants as top
use Rattle.wasm_types.specs.declared.value_types.HeapType.{HeapType}
use Rattle.wasm_types.specs.declared.value_types.HeapType.TheVariants as h
use Rattle.wasm_types.specs.declared.value_types.RefType.{RefType}
use Rattle.wasm_types.specs.declared.value_types.ValType.{ValType}
use Rattle.wasm_types.specs.declared.value_types.ValType.TheVariants as t
use Rattle.wasm_syntax.specs.declared.declarations.FuncDecl.{FuncDecl}
use Rattle.wasm_values.specs.Handles.{func_of, func_store, func_index, global_store, global_index, table_store, table_index, memory_store, memory_index, tag_store, tag_index}
use Rattle.wasm_values.specs.References.{i31, null_of}
use Rattle.wasm_values.specs.StoreIds.{number}
use Rattle.wasm_values.specs.Values.{val_of, vector}
use Rattle.wasm_values.specs.declared.externals.Extern.{Extern}
use Rattle.wasm_values.specs.declared.externals.Extern.TheVariants as x
use Rattle.wasm_values.specs.declared.handles.Func.{Func}
use Rattle.wasm_values.specs.declared.references.AnyRef.{AnyRef}
use Rattle.wasm_values.specs.declared.references.ExternRef.{ExternRef}
use Rattle.wasm_values.specs.declared.references.Ref.{Ref}
use Rattle.wasm_values.specs.declared.references.Ref.TheVariants as r
use Rattle.wasm_values.specs.declared.store_id.StoreId.{StoreId}
use Rattle.wasm_values.specs.declared.values.Val.{Val}
use Rattle.wasm_values.specs.declared.values.Val.TheVariants as v
use Rattle.wasm_objects.specs.declared.raw.RawRef.{RawRef}
use Rattle.wasm_objects.specs.declared.raw.RawRef.TheVariants as raw
use Rattle.wasm_objects.specs.declared.raw.RawVal.{RawVal}
use Rattle.wasm_objects.specs.declared.raw.RawVal.TheVariants as w
use Rattle.spec_machine.specs.Machine.{Machine, Function, InstanceParts, guest, host}

-- the reference to a number of 31 bits; of a greater one there is none
abbrev pub any_by : (n : ℕ) (b : Bool) → nat_lt n (2 ^ 31) ≡ b → Option AnyRef
any_by n true small = Some (record { value = n; small = ltb-true n (2 ^ 31) small })
any_by n false small = None

abbrev pub any_of : ℕ → Option AnyRef
any_of n = any_by n (nat_lt n (2 ^ 31)) refl

-- a reference in a place of a store whose type is below one of the three greatest heap types, as a host handles it
abbrev pub ref_at : StoreId → HeapTopType → RawRef → Ref
ref_at id greatest raw.Null = null_of greatest
ref_at id greatest (raw.Func f) = r.Func (Some (func_of id f))
ref_at id greatest (raw.Extern n) = r.Extern (Some (record { 0 = n }))
ref_at id greatest (raw.I31 n) = r.Any (any_of n)

-- and a reference as a place of a store holds it
abbrev pub raw_func : Option Func → RawRef
raw_func None = raw.Null
raw_func (Some f) = raw.Func (func_index f)

abbrev pub raw_extern : Option ExternRef → RawRef
raw_extern None = raw.Null
raw_extern (Some e) = raw.Extern e.0

abbrev pub raw_any : Option AnyRef → RawRef
raw_any None = raw.Null
raw_any (Some a) = raw.I31 (i31 a)

abbrev pub raw_ref : Ref → RawRef
raw_ref (r.Func f) = raw_func f
raw_ref (r.Extern e) = raw_extern e
raw_ref (r.Any a) = raw_any a

-- the greatest heap type above a type; for a number, where no reference stands, it is that of functions
abbrev pub top_of : ValType → HeapTopType
top_of (t.Ref ty) = heap_top (heap_type ty)
top_of _ = top.Func

-- a value of a type, as a host handles it and as a place of a store holds it
abbrev pub val_at : StoreId → ValType → RawVal → Val
val_at id ty (w.I32 n) = v.I32 n
val_at id ty (w.I64 n) = v.I64 n
val_at id ty (w.F32 bits) = v.F32 bits
val_at id ty (w.F64 bits) = v.F64 bits
val_at id ty (w.V128 bits) = v.V128 (vector bits)
val_at id ty (w.Reference r) = val_of (ref_at id (top_of ty) r)

abbrev pub raw_val : Val → RawVal
raw_val (v.I32 n) = w.I32 n
raw_val (v.I64 n) = w.I64 n
raw_val (v.F32 bits) = w.F32 bits
raw_val (v.F64 bits) = w.F64 bits
raw_val (v.V128 bits) = w.V128 bits.0
raw_val (v.FuncRef f) = w.Reference (raw_func f)
raw_val (v.ExternRef e) = w.Reference (raw_extern e)
raw_val (v.AnyRef a) = w.Reference (raw_any a)

-- the type of a function of a store, where it is there
abbrev pub defined_type : InstanceParts → ℕ → Option Signature
defined_type instance n = option_and_then (λ (f : FuncDecl). slice_get instance.decl.types f.ty) (slice_get instance.decl.functions n)

abbrev pub type_of_function : Machine → Function → Option Signature
type_of_function m (guest instance n) = option_and_then (λ i. defined_type i n) (slice_get m.instances instance)
type_of_function m (host ty body stored) = Some ty

abbrev pub function_type : Machine → ℕ → Option Signature
function_type m f = option_and_then (type_of_function m) (slice_get m.functions f)

abbrev pub concrete : Option Signature → HeapType
concrete None = h.Func
concrete (Some t) = h.ConcreteFunc t

-- the least type of a reference
-- "Execution, runtime structure, values" and "Validity, values", reference values
abbrev pub type_of_ref : Machine → Ref → RefType
type_of_ref m (r.Func None) = ref_type true h.NoFunc
type_of_ref m (r.Func (Some f)) = ref_type false (concrete (function_type m (func_index f)))
type_of_ref m (r.Extern None) = ref_type true h.NoExtern
type_of_ref m (r.Extern (Some e)) = ref_type false h.Extern
type_of_ref m (r.Any None) = ref_type true h.None
type_of_ref m (r.Any (Some a)) = ref_type false h.I31

-- the least type of a value
abbrev pub least_type : Machine → Val → ValType
least_type m (v.I32 n) = t.I32
least_type m (v.I64 n) = t.I64
least_type m (v.F32 bits) = t.F32
least_type m (v.F64 bits) = t.F64
least_type m (v.V128 bits) = t.V128
least_type m (v.FuncRef f) = t.Ref (type_of_ref m (r.Func f))
least_type m (v.ExternRef e) = t.Ref (type_of_ref m (r.Extern e))
least_type m (v.AnyRef a) = t.Ref (type_of_ref m (r.Any a))

-- the type that a host is told of a value: one of the host's own data is nullable, as the wasmtime crate has it
abbrev pub type_of_val : Machine → Val → ValType
type_of_val m (v.ExternRef (Some e)) = nullable_ref h.Extern
type_of_val m val = least_type m val

-- a reference, a value may stand where one of the type is wanted
abbrev pub ref_fits : Machine → Ref → RefType → Bool
ref_fits m r ty = ref_matches (type_of_ref m r) ty

abbrev pub val_fits : Machine → Val → ValType → Bool
val_fits m val ty = val_matches (least_type m val) ty

-- as many values as types, each of which may stand where its type is wanted
abbrev pub all_fit : Machine → List Val → List ValType → Bool
all_fit m [] [] = true
all_fit m (val ∷ vals) (ty ∷ tys) = val_fits m val ty && all_fit m vals tys
all_fit m _ _ = false

-- the same of what a place of the type holds
abbrev pub raw_ref_fits : Machine → RawRef → RefType → Bool
raw_ref_fits m r ty = ref_fits m (ref_at m.id (heap_top (heap_type ty)) r) ty

abbrev pub raw_val_fits : Machine → RawVal → ValType → Bool
raw_val_fits m val ty = val_fits m (val_at m.id ty val) ty

-- a handle is of this store: its store's id is this one's, and its object is there; this project's own
abbrev pub is_id : StoreId → StoreId → Bool
is_id a b = nat_eq (number a) (number b)

abbrev pub owns_func : Machine → Func → Bool
owns_func m f = is_id (func_store f) m.id && nat_lt (func_index f) (length m.functions)

abbrev pub owns_extern : Machine → Extern → Bool
owns_extern m (x.Func f) = owns_func m f
owns_extern m (x.Global g) = is_id (global_store g) m.id && nat_lt (global_index g) (length m.globals)
owns_extern m (x.Table t) = is_id (table_store t) m.id && nat_lt (table_index t) (length m.tables)
owns_extern m (x.Memory y) = is_id (memory_store y) m.id && nat_lt (memory_index y) (length m.memories)
owns_extern m (x.Tag t) = is_id (tag_store t) m.id && nat_lt (tag_index t) (length m.tags)

-- a value is of this store: a function in it is
abbrev pub owns_func_ref : Machine → Option Func → Bool
owns_func_ref m None = true
owns_func_ref m (Some f) = owns_func m f

abbrev pub owns_ref : Machine → Ref → Bool
owns_ref m (r.Func f) = owns_func_ref m f
owns_ref m _ = true

abbrev pub owns_val : Machine → Val → Bool
owns_val m (v.FuncRef f) = owns_func_ref m f
owns_val m _ = true
