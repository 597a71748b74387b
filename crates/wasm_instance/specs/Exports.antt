-- What a host asks of an instance: its module, and what it exports under a name, of any kind or of one; the calls are
-- those of the wasmtime crate.
-- WebAssembly core specification, "Execution, runtime structure, module instances", "export instances"
use Rattle.std.specs.Prelude.{◌≡◌, ℕ, Bool, true, false, ◌&&◌, nat_eq, if◌then◌else◌, List, map, slice_get, Option, Some, None, option_and_then, option_map, Result, Ok}
use Rattle.std.specs.List.{list_all, list_any}
use Rattle.wasm_syntax.specs.declared.declarations.ExportDecl.{ExportDecl}
use Rattle.wasm_syntax.specs.declared.declarations.ModuleDecl.{ModuleDecl}
use Rattle.wasm_syntax.specs.declared.entities.EntityIndex.{EntityIndex}
use Rattle.wasm_syntax.specs.declared.entities.EntityIndex.TheVariants as entity
use Rattle.wasm_syntax.specs.declared.entities.ModuleExport.{ModuleExport}
use Rattle.wasm_values.specs.Handles.{func_of, global_of, table_of, memory_of, tag_of}
use Rattle.wasm_values.specs.declared.externals.Extern.{Extern}
use Rattle.wasm_values.specs.declared.externals.Extern.TheVariants as x
use Rattle.wasm_values.specs.declared.handles.Instance.{Instance}
use Rattle.wasm_values.specs.declared.refusals.Refusal.{Refusal}
use Rattle.wasm_values.specs.declared.store_id.StoreId.{StoreId}
use Rattle.spec_machine.specs.InstanceCalls.{instance_at, object, exported_object}
use Rattle.spec_machine.specs.Machine.{Machine, InstanceParts}
use Rattle.spec_machine.specs.Steps.{◌>>=◌}
use Rattle.store_state.specs.Parts.{Names}

-- the module of the instance of a handle
abbrev pub module_of : Machine → Instance → Result ModuleDecl Refusal
module_of m h = do
  i ← instance_at m h
  Ok i.decl

-- the object that it exports under a name, where it exports one
abbrev pub export_of : Machine → Instance → List ℕ → Result (Option Extern) Refusal
export_of m h name = do
  i ← instance_at m h
  Ok (exported_object m i name)

-- the same of one kind: there is none where the object is of another
abbrev pub export_as : {A : Type 0} → (Extern → Option A) → Machine → Instance → List ℕ → Result (Option A) Refusal
export_as as_kind m h name = do
  i ← instance_at m h
  Ok (option_and_then as_kind (exported_object m i name))

-- ---- all that it exports

-- in the order in which its module declares them: the name, and the object; in a well-formed store each is there
abbrev pub Entry : Type 0
Entry = List ℕ × Option Extern

abbrev pub entries : Machine → InstanceParts → List Entry
entries m i = map (λ (e : ExportDecl). (e.name, object m i e.entity)) i.decl.exports

-- ---- by what an instance names, as code has it

abbrev pub object_named : StoreId → Names → EntityIndex → Option Extern
object_named id n (entity.Func k) = option_map (λ j. x.Func (func_of id j)) (slice_get n.functions k)
object_named id n (entity.Global k) = option_map (λ j. x.Global (global_of id j)) (slice_get n.globals k)
object_named id n (entity.Table k) = option_map (λ j. x.Table (table_of id j)) (slice_get n.tables k)
object_named id n (entity.Memory k) = option_map (λ j. x.Memory (memory_of id j)) (slice_get n.memories k)
object_named id n (entity.Tag k) = option_map (λ j. x.Tag (tag_of id j)) (slice_get n.tags k)

-- the entries of these exports
abbrev pub entries_of : StoreId → Names → List ExportDecl → List Entry
entries_of id n exports = map (λ (e : ExportDecl). (e.name, object_named id n e.entity)) exports

-- the object of each of them is there
abbrev pub is_there : Option Extern → Bool
is_there (Some o) = true
is_there None = false

abbrev pub AreThere : StoreId → Names → List ExportDecl → Type 0
AreThere id n exports = list_all (λ (e : ExportDecl). is_there (object_named id n e.entity)) exports ≡ true

-- ---- one by its index

-- the two name the same
abbrev pub same_entity : EntityIndex → EntityIndex → Bool
same_entity (entity.Func a) (entity.Func b) = nat_eq a b
same_entity (entity.Global a) (entity.Global b) = nat_eq a b
same_entity (entity.Table a) (entity.Table b) = nat_eq a b
same_entity (entity.Memory a) (entity.Memory b) = nat_eq a b
same_entity (entity.Tag a) (entity.Tag b) = nat_eq a b
same_entity _ _ = false

-- an export of the module of an instance: there is none where the module is of another number, or exports no such thing
abbrev pub is_exported : ModuleDecl → ModuleExport → Bool
is_exported d export =
    nat_eq d.number export.«module»
    && list_any (λ (e : ExportDecl). same_entity e.entity export.entity) d.exports

abbrev pub module_export_of : Machine → Instance → ModuleExport → Result (Option Extern) Refusal
module_export_of m h export = do
  i ← instance_at m h
  Ok (if is_exported i.decl export then object m i export.entity else None)
