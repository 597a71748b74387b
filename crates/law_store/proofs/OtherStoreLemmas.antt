-- Handles and values of other stores are refused.
use Rattle.std.proofs.Common.{◌≡◌, Bool, true, false, List, [], ◌∷◌, ◌++◌, slice_get, Option, Some, None, Result, Err, ok_or, if◌then◌else◌, refl, ap}
use Rattle.std.proofs.lemmas.Bool.{ne_eqb, and_left, and_right}
use Rattle.std.specs.List.{list_all}
use Rattle.wasm_values.specs.Handles.{func_store, func_index, global_store, global_index, table_store, table_index, memory_store, tag_store, tag_index, instance_store}
use Rattle.wasm_values.specs.StoreIds.{number}
use Rattle.wasm_values.specs.declared.externals.Extern.{Extern}
use Rattle.wasm_values.specs.declared.externals.Extern.TheVariants as x
use Rattle.wasm_values.specs.declared.refusals.Refusal.{Refusal}
use Rattle.wasm_values.specs.declared.refusals.Refusal.TheVariants.{WrongStore}
use Rattle.wasm_values.specs.declared.store_id.StoreId.{StoreId}
use Rattle.wasm_values.specs.declared.values.Val.TheVariants as v
use Rattle.spec_machine.specs.Machine.{Machine}
use Rattle.spec_machine.specs.Steps.{◌>>=◌}
use Rattle.spec_machine.specs.ValueCalls.{extern_ty}
use Rattle.spec_machine.specs.Values.{is_id, owns_extern, owns_val, function_type}
use Rattle.law_store.specs.OtherStores.{IsOther, IsWrongStore, extern_store, MemoriesOfOthers, TablesOfOthers, GlobalsOfOthers, TagsOfOthers, FunctionsOfOthers, InstancesOfOthers, ObjectsOfOthers}

is_other : (m : Machine) (id : StoreId) → IsOther m id → is_id id m.id ≡ false
is_other m id h = ne_eqb (number id) (number m.id) h

not_here : {A : Type 0} (own : Bool) (o : Option A) → own ≡ false →
    IsWrongStore (if own then ok_or o WrongStore else Err WrongStore)
not_here own o p = ap (λ (b : Bool). if b then ok_or o WrongStore else Err WrongStore) p

-- an object that is there or not, before something of another store
then_not : {A B : Type 0} (own : Bool) (o : Option A) →
    ◌≡◌ {A = Result B Refusal} ((if own then ok_or o WrongStore else Err WrongStore) >>= (λ x. Err WrongStore))
    (Err WrongStore)
then_not true (Some x) = refl
then_not true None = refl
then_not false o = refl

-- a list with one that fails a test
not_all : {A : Type 0} (test : A → Bool) (before : List A) (a : A) (behind : List A) → test a ≡ false →
    list_all test (before ++ a ∷ behind) ≡ false
not_all test [] a behind h = and_left (test a) (list_all test behind) h
not_all test (x ∷ before) a behind h =
    and_right (test x) (list_all test (before ++ a ∷ behind)) (not_all test before a behind h)

pub memories_of_others : MemoriesOfOthers
memories_of_others m h other =
    let e : is_id (memory_store h) m.id ≡ false = is_other m (memory_store h) other in
    record {
      ty = rw e refl;
      data_size = rw e refl;
      size = rw e refl;
      page_size = rw e refl;
      page_size_log2 = rw e refl;
      read = λ at len. rw e refl;
      write = λ at bytes. rw e refl;
      grow = λ delta. rw e refl;
    }

pub tables_of_others : TablesOfOthers
tables_of_others m h other =
    let e : is_id (table_store h) m.id ≡ false = is_other m (table_store h) other in
    record {
      ty = rw e refl;
      size = rw e refl;
      get = λ at. rw e refl;
      set = λ at val. rw e refl;
      fill = λ at val len. rw e refl;
      grow = λ delta val. rw e refl;
      copy_to = λ at src src_at len. rw e refl;
      copy_from = λ dst dst_at at len. rw e
          (then_not (is_id (table_store dst) m.id) (slice_get m.tables (table_index dst)));
    }

pub globals_of_others : GlobalsOfOthers
globals_of_others m h other =
    let e : is_id (global_store h) m.id ≡ false = is_other m (global_store h) other in
    record { ty = rw e refl; get = rw e refl; set = λ val. rw e refl }

pub tags_of_others : TagsOfOthers
tags_of_others m h other =
    let e : is_id (tag_store h) m.id ≡ false = is_other m (tag_store h) other in
    record {
      ty = rw e refl;
      eq_first = λ second. rw e refl;
      eq_second = λ first. rw e (then_not (is_id (tag_store first) m.id) (slice_get m.tags (tag_index first)));
    }

pub functions_of_others : FunctionsOfOthers
functions_of_others m h other =
    let e : is_id (func_store h) m.id ≡ false = is_other m (func_store h) other in
    record {
      ty = rw e refl;
      matches_ty = λ wanted. rw e refl;
      val_ty = rw e refl;
      val_matches_ty = λ wanted. rw e refl;
      ref_ty = rw e refl;
      ref_matches_ty = λ wanted. rw e refl;
      call = λ args wanted. rw e refl;
      argument = λ f before behind wanted. rw (not_all (owns_val m) before (v.FuncRef (Some h)) behind
          (and_left _ _ e)) (then_not (is_id (func_store f) m.id) (function_type m (func_index f)));
      global_new = λ ty. rw e refl;
      global_set = λ g. rw e (then_not (is_id (global_store g) m.id) (slice_get m.globals (global_index g)));
      table_new = λ ty. rw e refl;
      table_set = λ t at. rw e (then_not (is_id (table_store t) m.id) (slice_get m.tables (table_index t)));
      table_fill = λ t at len. rw e (then_not (is_id (table_store t) m.id) (slice_get m.tables (table_index t)));
      table_grow = λ t delta. rw e (then_not (is_id (table_store t) m.id) (slice_get m.tables (table_index t)));
    }

-- an object of another store
owns_not : (m : Machine) (o : Extern) → IsOther m (extern_store o) → owns_extern m o ≡ false
owns_not m (x.Func h) other = and_left _ _ (is_other m (func_store h) other)
owns_not m (x.Global h) other = and_left _ _ (is_other m (global_store h) other)
owns_not m (x.Table h) other = and_left _ _ (is_other m (table_store h) other)
owns_not m (x.Memory h) other = and_left _ _ (is_other m (memory_store h) other)
owns_not m (x.Tag h) other = and_left _ _ (is_other m (tag_store h) other)

type_not : (m : Machine) (o : Extern) → IsOther m (extern_store o) → IsWrongStore (extern_ty m o)
type_not m (x.Func h) other = let e : is_id (func_store h) m.id ≡ false = is_other m (func_store h) other in rw e refl
type_not m (x.Global h) other = let e : is_id (global_store h) m.id ≡ false = is_other m (global_store h) other in
    rw e refl
type_not m (x.Table h) other = let e : is_id (table_store h) m.id ≡ false = is_other m (table_store h) other in
    rw e refl
type_not m (x.Memory h) other = let e : is_id (memory_store h) m.id ≡ false = is_other m (memory_store h) other in
    rw e refl
type_not m (x.Tag h) other = let e : is_id (tag_store h) m.id ≡ false = is_other m (tag_store h) other in rw e refl

pub instances_of_others : InstancesOfOthers
instances_of_others m h other =
    let e : is_id (instance_store h) m.id ≡ false = is_other m (instance_store h) other in
    record { get_export = λ name. rw e refl }

pub objects_of_others : ObjectsOfOthers
objects_of_others m o other = record {
  ty = type_not m o other;
  stored = λ ty body before behind. rw (not_all (owns_extern m) before o behind (owns_not m o other)) refl;
}
