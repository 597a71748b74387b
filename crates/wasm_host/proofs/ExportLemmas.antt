-- The exports that a step sees are those of the instance.
use Rattle.std.proofs.Common.{◌≡◌, ℕ, List, [], ◌∷◌, Bool, true, false, Option, Some, None, map, refl, ap, sym, ◌∙◌}
use Rattle.std.specs.Prelude.{if◌then◌else◌, option_and_then, option_map, cond, nat_eq, slice_get, find, ◌&&◌, ◌||◌}
use Rattle.std.specs.Str.{bytes_eq}
use Rattle.std.proofs.lemmas.Bool.{eqb-true}
use Rattle.wasm_syntax.specs.declared.declarations.ExportDecl.{ExportDecl}
use Rattle.wasm_syntax.specs.declared.declarations.ModuleDecl.{ModuleDecl}
use Rattle.wasm_syntax.specs.declared.entities.EntityIndex.{EntityIndex}
use Rattle.wasm_syntax.specs.declared.entities.EntityIndex.TheVariants as entity
use Rattle.wasm_syntax.specs.declared.entities.ModuleExport.{ModuleExport}
use Rattle.wasm_module.specs.Exports.{Entry, entries, entity_named}
use Rattle.wasm_module.specs.Exports as told
use Rattle.wasm_values.specs.declared.externals.Extern.{Extern}
use Rattle.spec_machine.specs.InstanceCalls.{object}
use Rattle.spec_machine.specs.Machine.{Machine, InstanceParts}
use Rattle.spec_execution.specs.Activations.{exported, seen_caller, caller_of}
use Rattle.spec_execution.specs.Askings.{Exported}
use Rattle.store_state.proofs.Instances.{instance_at}
use Rattle.store_state.specs.Machine.{instance_of, IsNamed, run_machine, segments_at}
use Rattle.store_state.specs.Parts.{Names, ProgramParts, HeldParts}
use Rattle.wasm_host.specs.Callers.{export_named, object_named, is_entity, exports_entity, is_export_of, export_of, object_of}

-- the export of a module, as the module tells of the name
entity_told : (number : ℕ) (o : Option EntityIndex) →
    option_map (λ (x : ModuleExport). x.entity)
    (option_map (λ (k : EntityIndex). record { «module» = number; entity = k }) o) ≡ o
entity_told number None = refl
entity_told number (Some k) = refl

module _ (m : Machine) (i : InstanceParts) where
  abbrev shown : Option Exported → Option Extern
  shown o = option_and_then (λ (e : Exported). e.object) o

  -- ---- by name

  named_by : (name : List ℕ) (e : ExportDecl) (more : List ExportDecl) (b : Bool) →
      shown (export_named name (map (exported m i) more))
      ≡ option_and_then (object m i) (entity_named (entries more) name) →
      shown (if b then Some (exported m i e) else export_named name (map (exported m i) more))
      ≡ option_and_then (object m i) (option_map (λ (x : Entry). x.1)
      (if b then Some (e.name, e.entity) else find (λ (x : Entry). bytes_eq x.0 name) (entries more)))
  named_by name e more true h = refl
  named_by name e more false h = h

  named_is : (name : List ℕ) (es : List ExportDecl) →
      shown (export_named name (map (exported m i) es)) ≡ option_and_then (object m i) (entity_named (entries es) name)
  named_is name [] = refl
  named_is name (e ∷ more) = named_by name e more (bytes_eq e.name name) (named_is name more)

  pub export_seen : (n : Names) (name : List ℕ) (r : Option ModuleExport) → IsNamed i n →
      r ≡ told.export_named n.decl name →
      option_and_then (object m i) (option_map (λ (x : ModuleExport). x.entity) r)
      ≡ object_named (Some (seen_caller m i)) name
  export_seen n name r named e =
      let same : i.decl ≡ n.decl = ap (λ (x : InstanceParts). x.decl) named.1 in
      ap (λ (o : Option ModuleExport). option_and_then (object m i) (option_map (λ (x : ModuleExport). x.entity) o)) e
      ∙ ap (option_and_then (object m i)) (entity_told n.decl.number (entity_named (entries n.decl.exports) name))
      ∙ ap (λ (d : ModuleDecl). option_and_then (object m i) (entity_named (entries d.exports) name)) (sym same)
      ∙ sym (named_is name i.decl.exports)

  -- ---- by what it names

  same_entity : (e f : EntityIndex) → is_entity e f ≡ true → e ≡ f
  same_entity (entity.Func k) (entity.Func n) h = ap entity.Func (eqb-true k n h)
  same_entity (entity.Table k) (entity.Table n) h = ap entity.Table (eqb-true k n h)
  same_entity (entity.Memory k) (entity.Memory n) h = ap entity.Memory (eqb-true k n h)
  same_entity (entity.Global k) (entity.Global n) h = ap entity.Global (eqb-true k n h)
  same_entity (entity.Tag k) (entity.Tag n) h = ap entity.Tag (eqb-true k n h)
  same_entity e f h = cc

  entity_is : (wanted : EntityIndex) (exports : List ExportDecl) →
      shown (export_of wanted (map (exported m i) exports)) ≡ cond (exports_entity wanted exports) (object m i wanted) None
  entity_is wanted [] = refl
  entity_is wanted (e ∷ more) = by_test (entity_is wanted more) (is_entity e.entity wanted) refl where
    by_test : shown (export_of wanted (map (exported m i) more))
        ≡ cond (exports_entity wanted more) (object m i wanted) None →
        (b : Bool) → is_entity e.entity wanted ≡ b →
        shown (cond b (Some (exported m i e)) (export_of wanted (map (exported m i) more)))
        ≡ cond (b || exports_entity wanted more) (object m i wanted) None
    by_test rest true h = ap (object m i) (same_entity e.entity wanted h)
    by_test rest false h = rest

  object_is : (export : ModuleExport) →
      object_of (Some (seen_caller m i)) export ≡ cond (is_export_of i.decl export) (object m i export.entity) None
  object_is export = by_number (nat_eq i.decl.number export.«module») where
    by_number : (b : Bool) →
        cond b (shown (export_of export.entity (map (exported m i) i.decl.exports))) None
        ≡ cond (b && exports_entity export.entity i.decl.exports) (object m i export.entity) None
    by_number true = entity_is export.entity i.decl.exports
    by_number false = refl

  pub entity_seen : (n : Names) (export : ModuleExport) (b : Bool) → IsNamed i n → b ≡ is_export_of n.decl export →
      cond b (object m i export.entity) None ≡ object_of (Some (seen_caller m i)) export
  entity_seen n export b named test =
      let same : i.decl ≡ n.decl = ap (λ (x : InstanceParts). x.decl) named.1 in
      ap (λ (t : Bool). cond t (object m i export.entity) None)
      (test ∙ ap (λ (d : ModuleDecl). is_export_of d export) (sym same))
      ∙ sym (object_is export)

-- ---- of the instance of a number

module _ (base : Machine) (p : ProgramParts) (h : HeldParts) (n : ℕ) where
  looked_up : (o : Option Names) → slice_get p.instances n ≡ o →
      caller_of (run_machine base p h) (Some n)
      ≡ option_map (seen_caller (run_machine base p h))
      (option_map (λ (x : Names). instance_of x (segments_at h.segments n)) o)
  looked_up o found =
      ap (option_map (seen_caller (run_machine base p h))) (instance_at p.instances h.segments n
      ∙ ap (option_map (λ (x : Names). instance_of x (segments_at h.segments n))) found)

  pub caller_found : (x : Names) → slice_get p.instances n ≡ Some x →
      caller_of (run_machine base p h) (Some n)
      ≡ Some (seen_caller (run_machine base p h) (instance_of x (segments_at h.segments n)))
  caller_found x found = looked_up (Some x) found

  pub caller_missing : slice_get p.instances n ≡ None → caller_of (run_machine base p h) (Some n) ≡ None
  caller_missing none = looked_up None none
