-- Handles and values of other stores are refused, before anything else is looked at: this project's own.
use Rattle.std.specs.Prelude.{◌≡◌, ◌≢◌, ℕ, List, ◌∷◌, ◌++◌, Option, Some, Result, Err}
use Rattle.wasm_types.specs.GlobalTypes.{GlobalParts}
use Rattle.wasm_types.specs.Signatures.{Signature}
use Rattle.wasm_types.specs.TableTypes.{TableParts}
use Rattle.wasm_types.specs.declared.value_types.RefType.{RefType}
use Rattle.wasm_types.specs.declared.value_types.ValType.{ValType}
use Rattle.wasm_values.specs.Handles.{func_store, global_store, table_store, memory_store, tag_store, instance_store}
use Rattle.wasm_values.specs.StoreIds.{number}
use Rattle.wasm_values.specs.declared.externals.Extern.{Extern}
use Rattle.wasm_values.specs.declared.externals.Extern.TheVariants as x
use Rattle.wasm_values.specs.declared.handles.Func.{Func}
use Rattle.wasm_values.specs.declared.handles.Global.{Global}
use Rattle.wasm_values.specs.declared.handles.Instance.{Instance}
use Rattle.wasm_values.specs.declared.handles.Memory.{Memory}
use Rattle.wasm_values.specs.declared.handles.Table.{Table}
use Rattle.wasm_values.specs.declared.handles.Tag.{Tag}
use Rattle.wasm_values.specs.declared.references.Ref.{Ref}
use Rattle.wasm_values.specs.declared.references.Ref.TheVariants as r
use Rattle.wasm_values.specs.declared.refusals.Refusal.{Refusal}
use Rattle.wasm_values.specs.declared.refusals.Refusal.TheVariants.{WrongStore}
use Rattle.wasm_values.specs.declared.store_id.StoreId.{StoreId}
use Rattle.wasm_values.specs.declared.values.Val.{Val}
use Rattle.wasm_values.specs.declared.values.Val.TheVariants as v
use Rattle.spec_machine.specs.FunctionCalls.{called}
use Rattle.spec_machine.specs.GlobalCalls as globals
use Rattle.spec_machine.specs.InstanceCalls.{get_export}
use Rattle.spec_machine.specs.Machine.{Machine}
use Rattle.spec_machine.specs.MemoryCalls as memories
use Rattle.spec_machine.specs.TableCalls as tables
use Rattle.spec_machine.specs.ValueCalls as values
use Rattle.law_store.specs.PageSizes.{memory_page_size, memory_page_size_log2}

-- a store is another one by its id
abbrev pub IsOther : Machine → StoreId → Type 0
IsOther m id = number id ≢ number m.id

abbrev pub IsWrongStore : {A : Type 0} → Result A Refusal → Type 0
IsWrongStore answer = answer ≡ Err WrongStore

pub record RefusesMemory (m : Machine) (h : Memory) : Type 0 where
  pub ty : IsWrongStore (memories.memory_ty m h)
  pub data_size : IsWrongStore (memories.memory_data_size m h)
  pub size : IsWrongStore (memories.memory_size m h)
  pub page_size : IsWrongStore (memory_page_size m h)
  pub page_size_log2 : IsWrongStore (memory_page_size_log2 m h)
  pub read : (at len : ℕ) → IsWrongStore (memories.memory_read m h at len)
  pub write : (at : ℕ) (bytes : List ℕ) → IsWrongStore (memories.memory_write m h at bytes)
  pub grow : (delta : ℕ) → IsWrongStore (memories.memory_grow m h delta)

pub record RefusesTable (m : Machine) (h : Table) : Type 0 where
  pub ty : IsWrongStore (tables.table_ty m h)
  pub size : IsWrongStore (tables.table_size m h)
  pub get : (at : ℕ) → IsWrongStore (tables.table_get m h at)
  pub set : (at : ℕ) (val : Option Ref) → IsWrongStore (tables.table_set m h at val)
  pub fill : (at : ℕ) (val : Option Ref) (len : ℕ) → IsWrongStore (tables.table_fill m h at val len)
  pub grow : (delta : ℕ) (val : Option Ref) → IsWrongStore (tables.table_grow m h delta val)
  pub copy_to : (at : ℕ) (src : Table) (src_at len : ℕ) → IsWrongStore (tables.table_copy m h at src src_at len)
  pub copy_from : (dst : Table) (dst_at at len : ℕ) → IsWrongStore (tables.table_copy m dst dst_at h at len)

pub record RefusesGlobal (m : Machine) (h : Global) : Type 0 where
  pub ty : IsWrongStore (globals.global_ty m h)
  pub get : IsWrongStore (globals.global_get m h)
  pub set : (val : Val) → IsWrongStore (globals.global_set m h val)

pub record RefusesTag (m : Machine) (h : Tag) : Type 0 where
  pub ty : IsWrongStore (globals.tag_ty m h)
  pub eq_first : (other : Tag) → IsWrongStore (globals.tag_eq m h other)
  pub eq_second : (other : Tag) → IsWrongStore (globals.tag_eq m other h)

-- of a function, also as a reference, as a value and as an argument of a call
pub record RefusesFunc (m : Machine) (h : Func) : Type 0 where
  pub ty : IsWrongStore (values.func_ty m h)
  pub matches_ty : (wanted : Signature) → IsWrongStore (values.func_matches_ty m h wanted)
  pub val_ty : IsWrongStore (values.val_ty m (v.FuncRef (Some h)))
  pub val_matches_ty : (wanted : ValType) → IsWrongStore (values.val_matches_ty m (v.FuncRef (Some h)) wanted)
  pub ref_ty : IsWrongStore (values.ref_ty m (r.Func (Some h)))
  pub ref_matches_ty : (wanted : RefType) → IsWrongStore (values.ref_matches_ty m (r.Func (Some h)) wanted)
  pub call : (args : List Val) (wanted : Option ℕ) → IsWrongStore (called m h args wanted)
  pub argument : (f : Func) (before behind : List Val) (wanted : Option ℕ) →
      IsWrongStore (called m f (before ++ v.FuncRef (Some h) ∷ behind) wanted)
  pub global_new : (ty : GlobalParts) → IsWrongStore (globals.global_new m ty (v.FuncRef (Some h)))
  pub global_set : (g : Global) → IsWrongStore (globals.global_set m g (v.FuncRef (Some h)))
  pub table_new : (ty : TableParts) → IsWrongStore (tables.table_new m ty (Some (r.Func (Some h))))
  pub table_set : (t : Table) (at : ℕ) → IsWrongStore (tables.table_set m t at (Some (r.Func (Some h))))
  pub table_fill : (t : Table) (at len : ℕ) → IsWrongStore (tables.table_fill m t at (Some (r.Func (Some h))) len)
  pub table_grow : (t : Table) (delta : ℕ) → IsWrongStore (tables.table_grow m t delta (Some (r.Func (Some h))))

-- of any object: the call that tells its type, and a function that is to store it
pub record RefusesExtern (m : Machine) (o : Extern) : Type 0 where
  pub ty : IsWrongStore (values.extern_ty m o)
  pub stored : (ty : Signature) (body : ℕ) (before behind : List Extern) →
      IsWrongStore (values.func_new m ty body (before ++ o ∷ behind))

pub record RefusesInstance (m : Machine) (h : Instance) : Type 0 where
  pub get_export : (name : List ℕ) → IsWrongStore (get_export m h name)

abbrev pub extern_store : Extern → StoreId
extern_store (x.Func h) = func_store h
extern_store (x.Global h) = global_store h
extern_store (x.Table h) = table_store h
extern_store (x.Memory h) = memory_store h
extern_store (x.Tag h) = tag_store h

abbrev pub MemoriesOfOthers : Type 0
MemoriesOfOthers = (m : Machine) (h : Memory) → IsOther m (memory_store h) → RefusesMemory m h

abbrev pub TablesOfOthers : Type 0
TablesOfOthers = (m : Machine) (h : Table) → IsOther m (table_store h) → RefusesTable m h

abbrev pub GlobalsOfOthers : Type 0
GlobalsOfOthers = (m : Machine) (h : Global) → IsOther m (global_store h) → RefusesGlobal m h

abbrev pub TagsOfOthers : Type 0
TagsOfOthers = (m : Machine) (h : Tag) → IsOther m (tag_store h) → RefusesTag m h

abbrev pub FunctionsOfOthers : Type 0
FunctionsOfOthers = (m : Machine) (h : Func) → IsOther m (func_store h) → RefusesFunc m h

abbrev pub InstancesOfOthers : Type 0
InstancesOfOthers = (m : Machine) (h : Instance) → IsOther m (instance_store h) → RefusesInstance m h

abbrev pub ObjectsOfOthers : Type 0
ObjectsOfOthers = (m : Machine) (o : Extern) → IsOther m (extern_store o) → RefusesExtern m o
