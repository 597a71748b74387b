-- Values as a host handles them and as a store holds them: where the one leads to members alone, the other does.
use Rattle.std.proofs.Common.{◌≡◌, Bool, true, List, [], ◌∷◌, Some, None, refl}
use Rattle.std.specs.Prelude.{flat_map, map}
use Rattle.std.specs.List.{list_all}
use Rattle.std.proofs.lemmas.Bool.{and_parts}
use Rattle.wasm_types.specs.Each.{Each}
use Rattle.wasm_types.specs.declared.plain.HeapTopType.{HeapTopType}
use Rattle.wasm_types.specs.declared.plain.HeapTopType.TheVariants as top
use Rattle.wasm_types.specs.declared.value_types.ValType.{ValType}
use Rattle.wasm_values.specs.Handles.{func_store, func_index}
use Rattle.wasm_values.specs.References.{null_of}
use Rattle.wasm_values.specs.Values.{val_of, val_ref}
use Rattle.wasm_values.specs.declared.store_id.StoreId.{StoreId}
use Rattle.wasm_values.specs.declared.values.Val.{Val}
use Rattle.wasm_values.specs.declared.values.Val.TheVariants as v
use Rattle.wasm_objects.specs.declared.raw.RawRef.{RawRef}
use Rattle.wasm_objects.specs.declared.raw.RawRef.TheVariants as raw
use Rattle.wasm_objects.specs.declared.raw.RawVal.{RawVal}
use Rattle.wasm_objects.specs.declared.raw.RawVal.TheVariants as w
use Rattle.spec_machine.specs.Machine.{Machine}
use Rattle.spec_machine.specs.TableCalls.{owns_given, raw_given}
use Rattle.spec_machine.specs.Values.{ref_at, raw_val, top_of, val_at, owns_val}
use Rattle.law_store.proofs.Lists.{each_none, each_more, each_rest}
use Rattle.spec_execution.specs.Entering.{values_at}
use Rattle.spec_reach.specs.Nodes.{Node, func}
use Rattle.spec_reach.specs.Roots.{in_val}
use Rattle.law_confined.specs.Members.{IsHeld, IsHeldRef}
use Rattle.law_confined.proofs.AllMembers.{AllIn, all_none, all_in, all_front, all_back, own_in, in_own}

module _ (M : Node → Bool) where
  -- ---- as a store holds it

  -- of a value of the store
  pub val_held : (m : Machine) (val : Val) → owns_val m val ≡ true → AllIn M (in_val m.id val) → IsHeld M (raw_val val)
  val_held m (v.I32 n) e h = tt
  val_held m (v.I64 n) e h = tt
  val_held m (v.F32 n) e h = tt
  val_held m (v.F64 n) e h = tt
  val_held m (v.V128 n) e h = tt
  val_held m (v.FuncRef None) e h = tt
  val_held m (v.FuncRef (Some f)) e h = own_in M m.id (func_store f) (func (func_index f)) (and_parts _ _ e).0 h
  val_held m (v.ExternRef None) e h = tt
  val_held m (v.ExternRef (Some y)) e h = tt
  val_held m (v.AnyRef None) e h = tt
  val_held m (v.AnyRef (Some y)) e h = tt

  pub given_held :
      (m : Machine) (val : Val) → owns_given m (val_ref val) ≡ true → AllIn M (in_val m.id val)
      → IsHeldRef M (raw_given (val_ref val))
  given_held m (v.I32 n) e h = tt
  given_held m (v.I64 n) e h = tt
  given_held m (v.F32 n) e h = tt
  given_held m (v.F64 n) e h = tt
  given_held m (v.V128 n) e h = tt
  given_held m (v.FuncRef None) e h = tt
  given_held m (v.FuncRef (Some f)) e h = own_in M m.id (func_store f) (func (func_index f)) (and_parts _ _ e).0 h
  given_held m (v.ExternRef None) e h = tt
  given_held m (v.ExternRef (Some y)) e h = tt
  given_held m (v.AnyRef None) e h = tt
  given_held m (v.AnyRef (Some y)) e h = tt

  pub vals_held :
      (m : Machine) (vals : List Val) → list_all (owns_val m) vals ≡ true → AllIn M (flat_map (in_val m.id) vals)
      → Each (map raw_val vals) (IsHeld M)
  vals_held m [] e h = each_none (IsHeld M)
  vals_held m (val ∷ vals) e h =
      each_more (IsHeld M) (raw_val val) (map raw_val vals)
      (val_held m val (and_parts (owns_val m val) (list_all (owns_val m) vals) e).0
      (all_front M (in_val m.id val) (flat_map (in_val m.id) vals) h))
      (vals_held m vals (and_parts (owns_val m val) (list_all (owns_val m) vals) e).1
      (all_back M (in_val m.id val) (flat_map (in_val m.id) vals) h))

  -- ---- as a host handles it

  module _ (id : StoreId) where
    null_in : (greatest : HeapTopType) → AllIn M (in_val id (val_of (null_of greatest)))
    null_in top.Func = all_none M
    null_in top.Extern = all_none M
    null_in top.Any = all_none M

    pub ref_in :
        (greatest : HeapTopType) (y : RawRef) → IsHeldRef M y → AllIn M (in_val id (val_of (ref_at id greatest y)))
    ref_in greatest raw.Null h = null_in greatest
    ref_in greatest (raw.Func f) h = in_own M id id (func f) h
    ref_in greatest (raw.Extern n) h = all_none M
    ref_in greatest (raw.I31 n) h = all_none M

    pub val_in : (ty : ValType) (val : RawVal) → IsHeld M val → AllIn M (in_val id (val_at id ty val))
    val_in ty (w.I32 n) h = all_none M
    val_in ty (w.I64 n) h = all_none M
    val_in ty (w.F32 n) h = all_none M
    val_in ty (w.F64 n) h = all_none M
    val_in ty (w.V128 n) h = all_none M
    val_in ty (w.Reference y) h = ref_in (top_of ty) y h

  pub vals_in :
      (m : Machine) (tys : List ValType) (vs : List RawVal) → Each vs (IsHeld M)
      → AllIn M (flat_map (in_val m.id) (values_at m tys vs))
  vals_in m [] vs h = all_none M
  vals_in m (ty ∷ tys) [] h = all_none M
  vals_in m (ty ∷ tys) (val ∷ vs) h =
      all_in M (in_val m.id (val_at m.id ty val)) (flat_map (in_val m.id) (values_at m tys vs))
      (val_in m.id ty val (h 0 val refl)) (vals_in m tys vs (each_rest (IsHeld M) val vs h))
