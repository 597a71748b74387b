-- The store with a new instance is well formed, and later than the one before.
use Rattle.std.proofs.Common.{◌≡◌, ℕ, ◌+◌, ◌≤◌, ◌<◌, Bool, true, false, not, List, length, map, slice_get, Option, Some, option_map, option_and_then, sym, ap, ◌∙◌, subst, inl, inr, le_refl}
use Rattle.std.proofs.lemmas.List.{length-map}
use Rattle.std.proofs.lemmas.Option.{same_Some, option_and_then_some, slice_get-map}
use Rattle.wasm_types.specs.Each.{Each}
use Rattle.wasm_types.specs.EqualityLaws.{both, same_refl}
use Rattle.wasm_types.specs.FunctionParts.{ref_is_of}
use Rattle.wasm_types.specs.Memories.{new_memory}
use Rattle.wasm_types.specs.MemoryTypes.{MemoryParts}
use Rattle.wasm_types.specs.Signatures.{Signature, is_of}
use Rattle.wasm_types.specs.declared.value_types.ValType.TheVariants as value
use Rattle.wasm_syntax.specs.Constants as constants
use Rattle.wasm_syntax.specs.Contexts.{as_function, as_table, as_memory, as_global, as_tag, imported, functions, tables, memories, globals, tags}
use Rattle.wasm_syntax.specs.Modules.{IsModule}
use Rattle.wasm_syntax.specs.Rules.{is_there}
use Rattle.wasm_syntax.specs.declared.constants.ConstExpr.{ConstExpr}
use Rattle.wasm_syntax.specs.declared.declarations.ImportDecl.{ImportDecl}
use Rattle.wasm_syntax.specs.declared.declarations.ModuleDecl.{ModuleDecl}
use Rattle.wasm_syntax.specs.declared.declarations.TableDecl.{TableDecl}
use Rattle.wasm_syntax.specs.declared.module_fault.Rule.TheVariants as rule
use Rattle.wasm_syntax.specs.declared.segments.DataDecl.{DataDecl}
use Rattle.wasm_syntax.specs.declared.segments.ElemDecl.{ElemDecl}
use Rattle.wasm_values.specs.Externals.{extern_func, extern_table, extern_memory, extern_tag}
use Rattle.wasm_values.specs.Handles.{func_index, table_index, memory_index, tag_index}
use Rattle.wasm_values.specs.declared.externals.Extern.{Extern}
use Rattle.wasm_objects.specs.Tables.{new_table}
use Rattle.wasm_objects.specs.declared.raw.RawRef.{RawRef}
use Rattle.spec_machine.specs.Growth.{table_range}
use Rattle.spec_machine.specs.Machine.{Machine, guest, InstanceParts, debt}
use Rattle.spec_machine.specs.Values.{raw_ref_fits}
use Rattle.spec_machine.specs.WellFormed.{is_raw_ref, IsMemory, IsTable, IsGlobal, IsType, IsFunction, HasTable, HasMemory, HasTag, Has, IsSegment, IsInstance, IsWellFormed}
use Rattle.spec_execution.specs.Allocation.{from, imported_numbers, function_numbers, table_numbers, memory_numbers, tag_numbers, imported_values, global_values, reference_of, new_tables, new_globals, new_tags, new_functions, elements_of, new_instance, allocated}
use Rattle.law_store.specs.Later.{Extends}
use Rattle.law_store.proofs.Lists.{each_append}
use Rattle.law_store.proofs.WellFormedLemmas.{type_stays, function_stays, table_stays, global_stays, instance_stays}
use Rattle.law_code.proofs.Changes.{IsSafeChange}
use Rattle.law_code.proofs.ConstantLemmas.{IsNamed, reference_fits}
use Rattle.law_code.proofs.Functions.{not_false, within}
use Rattle.law_code.proofs.GivenLemmas.{IsGivenAs}
use Rattle.law_code.proofs.ImportLemmas.{AreGiven}
use Rattle.law_code.proofs.IndexLemmas.{Mapped, map-at}
use Rattle.law_code.proofs.NewObjectLemmas.{table_made, table_own_fits, memory_own_fits}
use Rattle.law_code.proofs.SpaceLemmas.{has_append, has_map, has_by, has_from, has_imported, from_is, push_cases, behind_at, all_at, given_at}
use Rattle.law_code.proofs.NewValueLemmas as new

-- what the questions gave: new memories and tables are within the range of indices
pub record MayBeMade (d : ModuleDecl) : Type 0 where
  pub memories : Each d.memories (λ ty. IsMemory (new_memory ty))
  pub tables : Each d.tables (λ (t : TableDecl). t.ty.minimum ≤ table_range)

module _ (m : Machine) (s : IsWellFormed m) (d : ModuleDecl) (is : IsModule d) (imports : List Extern)
    (given : AreGiven m d imports) (may : MayBeMade d) where
  abbrev after : Machine
  after = allocated m d imports

  abbrev instance : InstanceParts
  instance = new_instance m d imports

  -- the number of the instance, and of its functions
  abbrev number : ℕ
  number = length m.instances

  abbrev fs : List ℕ
  fs = function_numbers m d imports

  extends : Extends m after
  extends = new.extends m s d is imports given

  there : AreGiven after d imports
  there = new.there m s d is imports given

  of_engine_by : (test : ℕ → Bool) → not (test d.engine.0) ≡ false → test after.engine.number ≡ true
  of_engine_by = new.of_engine_by m s d is imports given

  functions_named : Has (functions d) fs (IsNamed after)
  functions_named = new.functions_named m s d is imports given

  -- ---- memories

  memory_named : (k n : ℕ) (ty : MemoryParts) → n ≡ length m.memories + k → slice_get d.memories k ≡ Some ty →
      HasMemory after ty n
  memory_named k n ty e p = record {
    memory = new_memory ty;
    found =
        behind_at m.memories (map new_memory d.memories) n k e
        ∙ slice_get-map new_memory d.memories k
        ∙ ap (option_map new_memory) p;
    fits = memory_own_fits ty (may.memories k ty p);
  }

  memories_named : Has (memories d) (memory_numbers m d imports) (HasMemory after)
  memories_named =
      has_append (HasMemory after) (imported as_memory d) d.memories
      (imported_numbers extern_memory memory_index imports) (from (length m.memories) (length d.memories))
      (has_imported (λ (i : ImportDecl). as_memory i.ty) extern_memory memory_index (HasMemory after) d.imports imports
      given.as_many (λ k i o p q. let h : IsGivenAs after i.ty o = there.each k i o p q in h.memory))
      (has_from (HasMemory after) d.memories (length m.memories) (λ k n ty e p. memory_named k n ty e p))

  memories_made : Each (map new_memory d.memories) IsMemory
  memories_made k x p =
      let q : Mapped new_memory d.memories k x = map-at new_memory d.memories k x p in
      subst IsMemory q.is (may.memories k q.item q.found)

  -- ---- tables

  abbrev first_element : TableDecl → RawRef
  first_element t = reference_of fs (imported_values m imports) t.init

  table_named : (k n : ℕ) (t : TableDecl) → n ≡ length m.tables + k → slice_get d.tables k ≡ Some t →
      HasTable after t.ty n
  table_named k n t e p = record {
    table = new_table t.ty (first_element t);
    found =
        behind_at m.tables (new_tables m d imports) n k e
        ∙ slice_get-map (λ (t : TableDecl). new_table t.ty (first_element t)) d.tables k
        ∙ ap (option_map (λ (t : TableDecl). new_table t.ty (first_element t))) p;
    fits = table_own_fits t.ty (first_element t);
  }

  tables_named : Has (tables d) (table_numbers m d imports) (HasTable after)
  tables_named =
      has_append (HasTable after) (imported as_table d) (map (λ (t : TableDecl). t.ty) d.tables)
      (imported_numbers extern_table table_index imports) (from (length m.tables) (length d.tables))
      (has_imported (λ (i : ImportDecl). as_table i.ty) extern_table table_index (HasTable after) d.imports imports
      given.as_many (λ k i o p q. let h : IsGivenAs after i.ty o = there.each k i o p q in h.table))
      (has_map (λ (t : TableDecl). t.ty) (HasTable after) d.tables (from (length m.tables) (length d.tables))
      (has_from (λ (t : TableDecl) n. HasTable after t.ty n) d.tables (length m.tables)
      (λ k n t e p. table_named k n t e p)))

  tables_made : Each (new_tables m d imports) (IsTable after)
  tables_made k x p =
      let q : Mapped (λ (t : TableDecl). new_table t.ty (first_element t)) d.tables k x =
      map-at (λ (t : TableDecl). new_table t.ty (first_element t)) d.tables k x p in
      let u : TableDecl = q.item in
      let first : (is_raw_ref after (first_element u) ≡ true)
      × (raw_ref_fits after (first_element u) u.ty.element ≡ true) =
      reference_fits after (functions d) fs functions_named (imported as_global d) (imported_values m imports)
      (new.imports_have m s d is imports given) u.ty.element u.init
      (not_false (constants.table_fits d u) ((is.valid rule.Const).in_tables k u q.found)) in
      subst (IsTable after) q.is
      (table_made after u.ty (first_element u) (is.tables_are k u q.found)
      (of_engine_by (λ e. ref_is_of e u.ty.element) ((is.valid rule.Engine).in_tables k u q.found))
      (may.tables k u q.found) first.0 first.1)

  -- ---- tags

  tag_there : (n ty : ℕ) → slice_get d.tags n ≡ Some ty → (own : Signature) × (slice_get d.types ty ≡ Some own)
  tag_there n ty p = within d.types ty (not_false (is_there d.types ty) ((is.valid rule.Index).in_tags n ty p))

  tag_at : (k : ℕ) → slice_get (new_tags d) k ≡ option_and_then (slice_get d.types) (slice_get d.tags k)
  tag_at k = given_at (slice_get d.types) d.tags tag_there k

  abbrev IsTagNamed : Option Signature → ℕ → Type 0
  IsTagNamed declared n = (ty : Signature) → declared ≡ Some ty → HasTag after ty n

  tag_named : (k n t : ℕ) → n ≡ length m.tags + k → slice_get d.tags k ≡ Some t →
      IsTagNamed (slice_get d.types t) n
  tag_named k n t e p ty q = record {
    ty = ty;
    found =
        behind_at m.tags (new_tags d) n k e ∙ tag_at k ∙ ap (option_and_then (slice_get d.types)) p ∙ q;
    fits = same_refl ty;
  }

  tags_named : Has (tags d) (tag_numbers m d imports) IsTagNamed
  tags_named =
      has_append IsTagNamed (map Some (imported as_tag d)) (map (slice_get d.types) d.tags)
      (imported_numbers extern_tag tag_index imports) (from (length m.tags) (length d.tags))
      (has_map Some IsTagNamed (imported as_tag d) (imported_numbers extern_tag tag_index imports)
      (has_by (HasTag after) (λ (ty : Signature) n. IsTagNamed (Some ty) n) (imported as_tag d)
      (imported_numbers extern_tag tag_index imports)
      (λ ty n h u e. subst (λ v. HasTag after v n) (same_Some ty u e) h)
      (has_imported (λ (i : ImportDecl). as_tag i.ty) extern_tag tag_index (HasTag after) d.imports imports
      given.as_many (λ k i o p q. let h : IsGivenAs after i.ty o = there.each k i o p q in h.tag))))
      (has_map (slice_get d.types) IsTagNamed d.tags (from (length m.tags) (length d.tags))
      (has_from (λ t n. IsTagNamed (slice_get d.types t) n) d.tags (length m.tags)
      (λ k n t e p. tag_named k n t e p)))

  tags_made : Each (new_tags d) (IsType after)
  tags_made k ty p =
      option_and_then_some (slice_get d.types) (slice_get d.tags k) ty (sym (tag_at k) ∙ p) (λ t q r. record {
        of_engine = of_engine_by (λ e. is_of e ty) ((is.valid rule.Engine).in_types t ty r);
        sound = is.types_are t ty r;
      })

  -- ---- segments

  abbrev item : ConstExpr → RawRef
  item e = reference_of fs (global_values m d imports) e

  segment_made : (k : ℕ) (e : ElemDecl) → slice_get d.elements k ≡ Some e → IsSegment after e (map item e.items)
  segment_made k e p =
      let fits : constants.element_fits d e ≡ true =
      not_false (constants.element_fits d e) ((is.valid rule.Const).in_elements k e p) in
      let each : (n : ℕ) (x : ConstExpr) → slice_get e.items n ≡ Some x →
      (is_raw_ref after (item x) ≡ true) × (raw_ref_fits after (item x) e.ty ≡ true) =
      λ n x q.
      reference_fits after (functions d) fs functions_named (globals d) (global_values m d imports)
      (new.globals_have m s d is imports given) e.ty x
      (all_at (constants.const_fits (functions d) (globals d) (value.Ref e.ty)) e.items n x (both _ _ fits).1 q) in
      record {
        there = λ n r q.
            let x : Mapped item e.items n r = map-at item e.items n r q in
            subst (λ y. is_raw_ref after y ≡ true) x.is (each n x.item x.found).0;
        fits = λ n r q.
            let x : Mapped item e.items n r = map-at item e.items n r q in
            subst (λ y. raw_ref_fits after y e.ty ≡ true) x.is (each n x.item x.found).1;
      }

  segments_made : (k : ℕ) (declared : ElemDecl) (items : List RawRef) → slice_get d.elements k ≡ Some declared →
      slice_get (elements_of m d imports) k ≡ Some items → IsSegment after declared items
  segments_made k declared items p q =
      let same : map item declared.items ≡ items =
      same_Some (map item declared.items) items
      (sym (slice_get-map (λ (e : ElemDecl). map item e.items) d.elements k
      ∙ ap (option_map (λ (e : ElemDecl). map item e.items)) p) ∙ q) in
      subst (IsSegment after declared) same (segment_made k declared p)

  -- ---- the instance

  defined_at : (n f : ℕ) → slice_get fs (length (imported as_function d) + n) ≡ Some f →
      slice_get after.functions f ≡ Some (guest number n)
  defined_at n f p =
      let ns : List ℕ = imported_numbers extern_func func_index imports in
      let row : List ℕ = from (length m.functions) (length d.functions) in
      let q : (f ≡ length m.functions + n) × (n < length d.functions) =
      from_is (length m.functions) (length d.functions) n f
      (sym (behind_at ns row (length (imported as_function d) + n) n
      (ap (λ j. j + n) (sym (new.imported_functions m s d is imports given).as_many))) ∙ p) in
      new.function_found m s d is imports given n f q.0 q.1

  instance_made : IsInstance after number instance
  instance_made = record {
    module_is = is;
    of_engine = given.of_engine;
    functions_fit = functions_named;
    tables_fit = tables_named;
    memories_fit = memories_named;
    globals_fit = new.globals_named m s d is imports given;
    tags_fit = tags_named;
    defined = defined_at;
    segments = length-map d.elements (λ (e : ElemDecl). map item e.items);
    segments_fit = segments_made;
    datas = length-map d.datas (λ (e : DataDecl). e.bytes);
  }

  instances_are : (n : ℕ) (i : InstanceParts) → slice_get after.instances n ≡ Some i → IsInstance after n i
  instances_are n i p =
      elim (push_cases m.instances instance n i p) [
        | inl q ↦ instance_stays m after extends s.functions_are n i (s.instances_are n i q)
        | inr q ↦ subst (λ k. IsInstance after k i) (sym q.0) (subst (IsInstance after number) q.1 instance_made)
      ]

  -- ---- the store

  pub allocated_safe : IsSafeChange m after
  allocated_safe = record {
    well = record {
      memories_are = each_append IsMemory m.memories (map new_memory d.memories) s.memories_are memories_made;
      tables_are = each_append (IsTable after) m.tables (new_tables m d imports)
          (λ n x p. table_stays m after extends s.functions_are x (s.tables_are n x p)) tables_made;
      globals_are = each_append (IsGlobal after) m.globals (new_globals m d imports)
          (λ n x p. global_stays m after extends s.functions_are x (s.globals_are n x p))
          (new.globals_are m s d is imports given);
      tags_are = each_append (IsType after) m.tags (new_tags d)
          (λ n x p. type_stays m after extends x (s.tags_are n x p)) tags_made;
      functions_are = each_append (IsFunction after) m.functions (new_functions m d)
          (λ n x p. function_stays m after extends x (s.functions_are n x p))
          (new.functions_made m s d is imports given);
      instances_are = instances_are;
      deadline_is = s.deadline_is;
      engine_is = s.engine_is;
      debt_is = s.debt_is;
    };
    later = extends;
    owed = le_refl (debt m.fuel);
  }
