-- Instances of a store by their handles, and what they export.
use Rattle.std.proofs.Common.{◌≡◌, ℕ, Bool, true, false, List, [], ◌∷◌, refl, ap, sym, ◌∙◌}
use Rattle.std.specs.Option.{ok_or}
use Rattle.std.specs.Prelude.{if◌then◌else◌, find, slice_get, Option, Some, None, option_and_then, option_map, Result, Ok, Err}
use Rattle.std.specs.Str.{bytes_eq}
use Rattle.wasm_syntax.specs.declared.declarations.ExportDecl.{ExportDecl}
use Rattle.wasm_syntax.specs.declared.entities.EntityIndex.{EntityIndex}
use Rattle.wasm_syntax.specs.declared.declarations.ModuleDecl.{ModuleDecl}
use Rattle.wasm_syntax.specs.declared.entities.ModuleExport.{ModuleExport}
use Rattle.wasm_module.specs.Exports.{Entry, entries, entity_named}
use Rattle.wasm_module.specs.Exports as told
use Rattle.wasm_values.specs.Handles.{instance_store, instance_index}
use Rattle.wasm_values.specs.declared.externals.Extern.{Extern}
use Rattle.wasm_values.specs.declared.handles.Instance.{Instance}
use Rattle.wasm_values.specs.declared.refusals.Refusal.{Refusal}
use Rattle.wasm_values.specs.declared.refusals.Refusal.TheVariants.{WrongStore, NoExport}
use Rattle.spec_machine.specs.InstanceCalls.{instance_at, object, export_named, exported_object, get_export}
use Rattle.spec_machine.specs.Machine.{Machine, InstanceParts}
use Rattle.spec_machine.specs.Steps.{◌>>=◌}
use Rattle.spec_machine.specs.Values.{is_id}
use Rattle.store_state.proofs.Instances.{instance_at as instance_here}
use Rattle.store_state.specs.Machine.{instance_of, IsNamed, run_machine, segments_at}
use Rattle.store_state.specs.Parts.{Names, SegmentParts, ProgramParts, HeldParts}

-- ---- the instance of a handle

-- of a handle of the store
instance_own : (m : Machine) (handle : Instance) → is_id (instance_store handle) m.id ≡ true →
    instance_at m handle ≡ ok_or (slice_get m.instances (instance_index handle)) WrongStore
instance_own m handle own =
    ap (λ (b : Bool). if b then ok_or (slice_get m.instances (instance_index handle)) WrongStore else Err WrongStore) own

module _ (base : Machine) (p : ProgramParts) (h : HeldParts) (handle : Instance)
    (own : is_id (instance_store handle) base.id ≡ true) where
  looked_up : (o : Option Names) → slice_get p.instances (instance_index handle) ≡ o →
      instance_at (run_machine base p h) handle
      ≡ ok_or (option_map (λ n. instance_of n (segments_at h.segments (instance_index handle))) o) WrongStore
  looked_up o found =
      instance_own (run_machine base p h) handle own
      ∙ ap (λ (x : Option InstanceParts). ok_or x WrongStore) (instance_here p.instances h.segments (instance_index handle)
      ∙ ap (option_map (λ (n : Names). instance_of n (segments_at h.segments (instance_index handle)))) found)

-- the same, of the machine that contracts see
module _ (base : Machine) (p : ProgramParts) (h : HeldParts) (m : Machine) (seen : run_machine base p h ≡ m)
    (handle : Instance) (own : is_id (instance_store handle) m.id ≡ true) where
  own_by : is_id (instance_store handle) base.id ≡ true
  own_by = ap (λ (k : Machine). is_id (instance_store handle) k.id) seen ∙ own

  pub instance_found : (n : Names) → slice_get p.instances (instance_index handle) ≡ Some n →
      (i : InstanceParts) × (instance_at m handle ≡ Ok i) × IsNamed i n
  instance_found n found =
      let s : SegmentParts = segments_at h.segments (instance_index handle) in (
        instance_of n s,
        ap (λ (k : Machine). instance_at k handle) (sym seen) ∙ looked_up base p h handle own_by (Some n) found,
        (s, refl),
      )

  pub instance_missing : slice_get p.instances (instance_index handle) ≡ None → instance_at m handle ≡ Err WrongStore
  instance_missing none =
      ap (λ (k : Machine). instance_at k handle) (sym seen) ∙ looked_up base p h handle own_by None none

-- ---- what an instance exports

-- the first export of a name names what the first entry of that name does
entity_by : (name : List ℕ) (e : ExportDecl) (more : List ExportDecl) (b : Bool) →
    option_map (λ (x : ExportDecl). x.entity) (export_named name more) ≡ entity_named (entries more) name →
    option_map (λ (x : ExportDecl). x.entity) (if b then Some e else export_named name more)
    ≡ option_map (λ (x : Entry). x.1)
    (if b then Some (e.name, e.entity) else find (λ (x : Entry). bytes_eq x.0 name) (entries more))
entity_by name e more true h = refl
entity_by name e more false h = h

entity_exported : (name : List ℕ) (es : List ExportDecl) →
    option_map (λ (x : ExportDecl). x.entity) (export_named name es) ≡ entity_named (entries es) name
entity_exported name [] = refl
entity_exported name (e ∷ more) = entity_by name e more (bytes_eq e.name name) (entity_exported name more)

object_by : (m : Machine) (i : InstanceParts) (o : Option ExportDecl) →
    option_and_then (λ (e : ExportDecl). object m i e.entity) o
    ≡ option_and_then (object m i) (option_map (λ (x : ExportDecl). x.entity) o)
object_by m i None = refl
object_by m i (Some e) = refl

entity_told : (number : ℕ) (o : Option EntityIndex) →
    option_map (λ (x : ModuleExport). x.entity)
    (option_map (λ (k : EntityIndex). record { «module» = number; entity = k }) o) ≡ o
entity_told number None = refl
entity_told number (Some k) = refl

-- the object that an instance exports, by what its module tells of the name
pub exported_by : (m : Machine) (n : Names) (i : InstanceParts) (name : List ℕ) (r : Option ModuleExport) →
    IsNamed i n → r ≡ told.export_named n.decl name →
    option_and_then (object m i) (option_map (λ (x : ModuleExport). x.entity) r) ≡ exported_object m i name
exported_by m n i name r named e =
    let same : i.decl ≡ n.decl = ap (λ (x : InstanceParts). x.decl) named.1 in
    let entity : option_map (λ (x : ModuleExport). x.entity) r ≡ entity_named (entries n.decl.exports) name =
    ap (option_map (λ (x : ModuleExport). x.entity)) e
    ∙ entity_told n.decl.number (entity_named (entries n.decl.exports) name) in
    sym (object_by m i (export_named name i.decl.exports)
    ∙ ap (option_and_then (object m i)) (entity_exported name i.decl.exports
    ∙ ap (λ (d : ModuleDecl). entity_named (entries d.exports) name) same ∙ sym entity))

-- an export of an instance that is there
pub export_of : (m : Machine) (handle : Instance) (name : List ℕ) (i : InstanceParts) → instance_at m handle ≡ Ok i →
    (o : Option Extern) → o ≡ exported_object m i name → ok_or o NoExport ≡ get_export m handle name
export_of m handle name i there o e =
    sym (ap (λ (r : Result InstanceParts Refusal). r >>= (λ (x : InstanceParts). ok_or (exported_object m x name) NoExport))
    there ∙ ap (λ (x : Option Extern). ok_or x NoExport) (sym e))
