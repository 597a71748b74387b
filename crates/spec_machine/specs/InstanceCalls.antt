-- What a host does with instances: the calls of the wasmtime crate.
-- WebAssembly core specification, "Execution, runtime structure, module instances", "export instances"
use Rattle.std.specs.Prelude.{ℕ, List, [], ◌∷◌, if◌then◌else◌, slice_get, Option, Some, None, option_and_then, option_map, Result, Err}
use Rattle.std.specs.Option.{ok_or}
use Rattle.std.specs.Str.{bytes_eq}
use Rattle.wasm_syntax.specs.declared.declarations.ExportDecl.{ExportDecl}
use Rattle.wasm_syntax.specs.declared.entities.EntityIndex.{EntityIndex}
use Rattle.wasm_syntax.specs.declared.entities.EntityIndex.TheVariants as entity
use Rattle.wasm_values.specs.Handles.{func_of, global_of, table_of, memory_of, tag_of, instance_store, instance_index}
use Rattle.wasm_values.specs.declared.externals.Extern.{Extern}
use Rattle.wasm_values.specs.declared.externals.Extern.TheVariants as x
use Rattle.wasm_values.specs.declared.handles.Instance.{Instance}
use Rattle.wasm_values.specs.declared.refusals.Refusal.{Refusal}
use Rattle.wasm_values.specs.declared.refusals.Refusal.TheVariants.{WrongStore, NoExport}
use Rattle.spec_machine.specs.Machine.{Machine, InstanceParts}
use Rattle.spec_machine.specs.Steps.{◌>>=◌}
use Rattle.spec_machine.specs.Values.{is_id}

-- the instance of a handle
abbrev pub instance_at : Machine → Instance → Result InstanceParts Refusal
instance_at m h =
    if is_id (instance_store h) m.id then ok_or (slice_get m.instances (instance_index h)) WrongStore
    else Err WrongStore

-- the object that an instance has under an index
abbrev pub object : Machine → InstanceParts → EntityIndex → Option Extern
object m i (entity.Func k) = option_map (λ n. x.Func (func_of m.id n)) (slice_get i.functions k)
object m i (entity.Global k) = option_map (λ n. x.Global (global_of m.id n)) (slice_get i.globals k)
object m i (entity.Table k) = option_map (λ n. x.Table (table_of m.id n)) (slice_get i.tables k)
object m i (entity.Memory k) = option_map (λ n. x.Memory (memory_of m.id n)) (slice_get i.memories k)
object m i (entity.Tag k) = option_map (λ n. x.Tag (tag_of m.id n)) (slice_get i.tags k)

-- the export of a name; a valid module has one at most
abbrev pub export_named : List ℕ → List ExportDecl → Option ExportDecl
export_named name [] = None
export_named name (e ∷ more) = if bytes_eq e.name name then Some e else export_named name more

-- the object that an instance exports under a name
abbrev pub exported_object : Machine → InstanceParts → List ℕ → Option Extern
exported_object m i name =
    option_and_then (λ (e : ExportDecl). object m i e.entity) (export_named name i.decl.exports)

abbrev pub get_export : Machine → Instance → List ℕ → Result Extern Refusal
get_export m h name = do
  i ← instance_at m h
  ok_or (exported_object m i name) NoExport
