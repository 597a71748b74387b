-- The objects that an instance of a well-formed store exports are there.
use Rattle.std.proofs.Common.{◌≡◌, ℕ, suc, Bool, true, false, List, [], ◌∷◌, ◌++◌, slice_get, Option, Some, None, Result, Ok, Err, refl, sym, ap, ◌∙◌, subst}
use Rattle.std.specs.Option.{ok_or}
use Rattle.std.specs.Prelude.{if◌then◌else◌, option_map}
use Rattle.std.proofs.lemmas.Bool.{and_from}
use Rattle.wasm_types.proofs.MatchingLemmas.{no}
use Rattle.wasm_types.specs.EqualityLaws.{both}
use Rattle.wasm_syntax.specs.Contexts.{functions, tables, memories, globals, tags}
use Rattle.wasm_syntax.specs.Rules.{has_entity}
use Rattle.wasm_syntax.specs.declared.declarations.ExportDecl.{ExportDecl}
use Rattle.wasm_syntax.specs.declared.declarations.ModuleDecl.{ModuleDecl}
use Rattle.wasm_syntax.specs.declared.entities.EntityIndex.{EntityIndex}
use Rattle.wasm_syntax.specs.declared.entities.EntityIndex.TheVariants as entity
use Rattle.wasm_syntax.specs.declared.module_fault.Rule.TheVariants as rule
use Rattle.wasm_values.specs.Handles.{instance_store, instance_index}
use Rattle.wasm_values.specs.declared.externals.Extern.{Extern}
use Rattle.wasm_values.specs.declared.handles.Instance.{Instance}
use Rattle.wasm_values.specs.declared.refusals.Refusal.{Refusal}
use Rattle.wasm_values.specs.declared.refusals.Refusal.TheVariants.{WrongStore}
use Rattle.wasm_values.specs.declared.store_id.StoreId.{StoreId}
use Rattle.spec_machine.specs.InstanceCalls.{instance_at}
use Rattle.spec_machine.specs.Machine.{Machine, InstanceParts}
use Rattle.spec_machine.specs.Values.{is_id}
use Rattle.spec_machine.specs.WellFormed.{IsInstance, IsWellFormed}
use Rattle.law_code.proofs.Functions.{not_false, within}
use Rattle.law_code.proofs.IndexLemmas.{member}
use Rattle.store_state.specs.Machine.{instance_of, IsNamed}
use Rattle.store_state.specs.Parts.{Names}
use Rattle.wasm_instance.specs.Exports.{object_named, is_there, AreThere}

found_in : (own : Bool) (o : Option InstanceParts) (i : InstanceParts) →
    ◌≡◌ {A = Result InstanceParts Refusal} (if own then ok_or o WrongStore else Err WrongStore) (Ok i) → o ≡ Some i
found_in true (Some x) i e = ap Some (same x i e) where
  same : (a b : InstanceParts) → ◌≡◌ {A = Result InstanceParts Refusal} (Ok a) (Ok b) → a ≡ b
  same a b q = cc
found_in true None i e = absurd cc
found_in false o i e = absurd cc

mapped : {A B : Type 0} (f : A → B) (o : Option A) (a : A) → o ≡ Some a → (b : B) × (option_map f o ≡ Some b)
mapped f o a e = (f a, ap (option_map f) e)

module _ (m : Machine) (k : ℕ) (i : InstanceParts) (made : IsInstance m k i) (id : StoreId) where
  abbrev d : ModuleDecl
  d = i.decl

  by_entity : (x : EntityIndex) → has_entity d x ≡ true → (n : Names) → n.functions ≡ i.functions →
      n.tables ≡ i.tables → n.memories ≡ i.memories → n.globals ≡ i.globals → n.tags ≡ i.tags →
      (o : Extern) × (object_named id n x ≡ Some o)
  by_entity (entity.Func j) h n f t e g s =
      let a = within (functions d) j h in
      let b = member (functions d) i.functions j a.0 made.functions_fit.as_many a.1 in
      mapped _ (slice_get n.functions j) b.0 (ap (λ l. slice_get l j) f ∙ b.1)
  by_entity (entity.Global j) h n f t e g s =
      let a = within (globals d) j h in
      let b = member (globals d) i.globals j a.0 made.globals_fit.as_many a.1 in
      mapped _ (slice_get n.globals j) b.0 (ap (λ l. slice_get l j) g ∙ b.1)
  by_entity (entity.Table j) h n f t e g s =
      let a = within (tables d) j h in
      let b = member (tables d) i.tables j a.0 made.tables_fit.as_many a.1 in
      mapped _ (slice_get n.tables j) b.0 (ap (λ l. slice_get l j) t ∙ b.1)
  by_entity (entity.Memory j) h n f t e g s =
      let a = within (memories d) j h in
      let b = member (memories d) i.memories j a.0 made.memories_fit.as_many a.1 in
      mapped _ (slice_get n.memories j) b.0 (ap (λ l. slice_get l j) e ∙ b.1)
  by_entity (entity.Tag j) h n f t e g s =
      let a = within (tags d) j h in
      let b = member (tags d) i.tags j a.0 made.tags_fit.as_many a.1 in
      mapped _ (slice_get n.tags j) b.0 (ap (λ l. slice_get l j) s ∙ b.1)

there_all : (id : StoreId) (n : Names) (es : List ExportDecl) →
    ((j : ℕ) (e : ExportDecl) → slice_get es j ≡ Some e →
    (o : Extern) × (object_named id n e.entity ≡ Some o)) → AreThere id n es
there_all id n [] h = refl
there_all id n (e ∷ es) h =
    and_from _ _ (ap is_there (h 0 e refl).1) (there_all id n es (λ j x found. h (suc j) x found))

-- of a handle
pub all_there : (m : Machine) (h : Instance) (i : InstanceParts) (n : Names) → IsWellFormed m →
    instance_at m h ≡ Ok i → IsNamed i n → AreThere m.id n i.decl.exports
all_there m h i n s there named =
    let at : slice_get m.instances (instance_index h) ≡ Some i =
    found_in (is_id (instance_store h) m.id) (slice_get m.instances (instance_index h)) i there in
    let made : IsInstance m (instance_index h) i = s.instances_are (instance_index h) i at in
    let is : i ≡ instance_of n named.0 = named.1 in
    there_all m.id n i.decl.exports (λ j e found.
    by_entity m (instance_index h) i made m.id e.entity
    (not_false (has_entity i.decl e.entity) ((made.module_is.valid rule.Index).in_exports j e found)) n
    (sym (ap (λ (x : InstanceParts). x.functions) is)) (sym (ap (λ (x : InstanceParts). x.tables) is))
    (sym (ap (λ (x : InstanceParts). x.memories) is)) (sym (ap (λ (x : InstanceParts). x.globals) is))
    (sym (ap (λ (x : InstanceParts). x.tags) is)))

-- ---- an export that is taken

-- the first of them, or the last, is there
pub first_there : (id : StoreId) (n : Names) (es tail : List ExportDecl) (e : ExportDecl) → es ≡ e ∷ tail →
    AreThere id n es → None ≡ object_named id n e.entity → ⊥
first_there id n es tail e same h none =
    let all : AreThere id n (e ∷ tail) = subst (AreThere id n) same h in
    let one : is_there (object_named id n e.entity) ≡ true = (both _ _ all).0 in
    no (ap is_there none ∙ one)

pub rest_there : (id : StoreId) (n : Names) (es tail : List ExportDecl) (e : ExportDecl) → es ≡ e ∷ tail →
    AreThere id n es → AreThere id n tail
rest_there id n es tail e same h =
    let all : AreThere id n (e ∷ tail) = subst (AreThere id n) same h in (both _ _ all).1

front_there : (id : StoreId) (n : Names) (front : List ExportDecl) (e : ExportDecl) →
    AreThere id n (front ++ e ∷ []) →
    (AreThere id n front) × (is_there (object_named id n e.entity) ≡ true)
front_there id n [] e h = (refl, (both _ _ h).0)
front_there id n (x ∷ front) e h =
    let t = front_there id n front e (both _ _ h).1 in (and_from _ _ (both _ _ h).0 t.0, t.1)

pub last_there : (id : StoreId) (n : Names) (es front : List ExportDecl) (e : ExportDecl) → es ≡ front ++ e ∷ [] →
    AreThere id n es → None ≡ object_named id n e.entity → ⊥
last_there id n es front e same h none =
    let one : is_there (object_named id n e.entity) ≡ true =
    (front_there id n front e (subst (AreThere id n) same h)).1 in
    no (ap is_there none ∙ one)

pub others_there : (id : StoreId) (n : Names) (es front : List ExportDecl) (e : ExportDecl) → es ≡ front ++ e ∷ [] →
    AreThere id n es → AreThere id n front
others_there id n es front e same h = (front_there id n front e (subst (AreThere id n) same h)).0
