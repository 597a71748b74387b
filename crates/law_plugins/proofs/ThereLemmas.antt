-- What is among a store's nodes is there, and a well-formed store leads to nothing but what is there.
use Rattle.std.proofs.Common.{◌≡◌, ◌⊎◌, ℕ, zero, suc, ◌+◌, ◌<◌, Bool, true, List, [], ◌∷◌, ◌++◌, length, map, Option, Some, None, slice_get, refl, sym, ap, ◌∙◌, subst, inl, inr, arith}
use Rattle.std.specs.Prelude.{nat_lt, option_map, option_and_then}
use Rattle.std.proofs.lemmas.Bool.{false≢true, lt-ltb, or_cases, and_parts}
use Rattle.std.proofs.lemmas.List.{length-map}
use Rattle.std.proofs.lemmas.Option.{none-some, same_Some, slice_get_within, slice_get-map}
use Rattle.wasm_types.specs.Each.{Each}
use Rattle.wasm_types.specs.Signatures.{Signature}
use Rattle.wasm_syntax.specs.Contexts.{functions, tables, memories, globals, imported, as_function}
use Rattle.wasm_values.specs.Handles.{func_store, func_index, global_store, global_index, table_store, table_index, memory_store, memory_index}
use Rattle.wasm_values.specs.declared.externals.Extern.{Extern}
use Rattle.wasm_values.specs.declared.externals.Extern.TheVariants as x
use Rattle.wasm_values.specs.declared.store_id.StoreId.{StoreId}
use Rattle.wasm_objects.specs.declared.raw.RawRef.{RawRef}
use Rattle.wasm_objects.specs.declared.raw.RawRef.TheVariants as raw
use Rattle.wasm_objects.specs.declared.raw.RawVal.{RawVal}
use Rattle.wasm_objects.specs.declared.raw.RawVal.TheVariants as w
use Rattle.spec_machine.specs.Machine.{Machine, Function, guest, host, InstanceParts}
use Rattle.spec_machine.specs.Values.{owns_extern, function_type, type_of_function}
use Rattle.spec_machine.specs.WellFormed.{is_raw_ref, is_raw_val, IsFunction, HasFunction, IsInstance, IsWellFormed}
use Rattle.spec_reach.specs.Nodes.{Node, func, instance, memory, table, global, same_node, has, numbered, nodes, is_there}
use Rattle.spec_reach.specs.Reach.{of_store, links}
use Rattle.spec_reach.proofs.FilterLemmas.{same_is, has_either}
use Rattle.law_code.proofs.IndexLemmas.{member}
use Rattle.law_code.proofs.SpaceLemmas.{all_at}
use Rattle.law_confined.specs.Members.{IsMember, IsHeld, IsHeldRef, IsHeldObject, NamesMembers, LeadsToMembers, IsClosed}
use Rattle.law_confined.proofs.AllMembers.{all_none, each_in, in_own}
use Rattle.law_confined.proofs.ClosedSets.{links_in}

-- ---- what is among the nodes

numbered_is :
    (kind : ℕ → Node) (from k : ℕ) (x : Node) → has (numbered kind from k) x ≡ true
    → (d : ℕ) × (d < k) × (x ≡ kind (from + d))
numbered_is kind from zero x e = absurd (false≢true e)
numbered_is kind from (suc k) x e =
    elim (or_cases (same_node x (kind from)) (has (numbered kind (suc from) k) x) e) [
      | inl q ↦
          let own : from ≡ from + 0 = omega arith in
          (0, omega arith, same_is x (kind from) q ∙ ap kind own)
      | inr q ↦
          let r = numbered_is kind (suc from) k x q in
          let on : suc from + r.0 ≡ from + suc r.0 = omega arith in
          (suc r.0, omega (arith, r.1), r.2 ∙ ap kind on)
    ]

module _ (m : Machine) where
  by_number :
      (kind : ℕ → Node) (k : ℕ) → ((n : ℕ) → n < k → is_there m (kind n) ≡ true) → (x : Node)
      → has (numbered kind 0 k) x ≡ true → is_there m x ≡ true
  by_number kind k h x e =
      let r = numbered_is kind 0 k x e in
      let own : 0 + r.0 ≡ r.0 = omega arith in
      subst (λ y. is_there m y ≡ true) (sym (r.2 ∙ ap kind own)) (h r.0 r.1)

  pub has_there : (x : Node) → has (nodes m) x ≡ true → is_there m x ≡ true
  has_there x e =
      elim (has_either (numbered func 0 (length m.functions)) _ x e) [
        | inl p ↦ by_number func (length m.functions) (λ n l. lt-ltb n (length m.functions) l) x p
        | inr e ↦ elim (has_either (numbered instance 0 (length m.instances)) _ x e) [
          | inl p ↦ by_number instance (length m.instances) (λ n l. lt-ltb n (length m.instances) l) x p
          | inr e ↦ elim (has_either (numbered memory 0 (length m.memories)) _ x e) [
            | inl p ↦ by_number memory (length m.memories) (λ n l. lt-ltb n (length m.memories) l) x p
            | inr e ↦ elim (has_either (numbered table 0 (length m.tables)) _ x e) [
              | inl p ↦ by_number table (length m.tables) (λ n l. lt-ltb n (length m.tables) l) x p
              | inr p ↦ by_number global (length m.globals) (λ n l. lt-ltb n (length m.globals) l) x p
            ]
          ]
        ]
      ]

-- ---- what a well-formed store leads to

pub there_at : {A : Type 0} (xs : List A) (n : ℕ) (y : A) → slice_get xs n ≡ Some y → nat_lt n (length xs) ≡ true
there_at xs n y e = lt-ltb n (length xs) (slice_get_within xs n y e)

-- a member of two lists is of the first, or so far behind it
behind : {A : Type 0} (xs ys : List A) (n : ℕ) (y : A) → slice_get (xs ++ ys) n ≡ Some y →
    (slice_get xs n ≡ Some y) ⊎ ((k : ℕ) × (n ≡ length xs + k))
behind [] ys n y e = inr (n, omega arith)
behind (z ∷ xs) ys zero y e = inl e
behind (z ∷ xs) ys (suc n) y e =
    elim (behind xs ys n y e) [ inl p ↦ inl p | inr p ↦ inr (p.0, omega (arith, p.1)) ]

module _ (m : Machine) (well : IsWellFormed m) where
  abbrev M : Node → Bool
  M = is_there m

  ref_there : (y : RawRef) → is_raw_ref m y ≡ true → IsHeldRef M y
  ref_there (raw.Func n) e = e
  ref_there raw.Null e = tt
  ref_there (raw.Extern n) e = tt
  ref_there (raw.I31 n) e = tt

  value_there : (v : RawVal) → is_raw_val m v ≡ true → IsHeld M v
  value_there (w.Reference y) e = ref_there y e
  value_there (w.I32 n) e = tt
  value_there (w.I64 n) e = tt
  value_there (w.F32 n) e = tt
  value_there (w.F64 n) e = tt
  value_there (w.V128 n) e = tt

  placed : (store : StoreId) (y : Node) → IsMember M y → Each (of_store m.id store y) (IsMember M)
  placed store y e = each_in M (of_store m.id store y) (in_own M m.id store y e)

  object_there : (y : Extern) → owns_extern m y ≡ true → IsHeldObject M m.id y
  object_there (x.Func h) e = placed (func_store h) (func (func_index h)) (and_parts _ _ e).1
  object_there (x.Global h) e = placed (global_store h) (global (global_index h)) (and_parts _ _ e).1
  object_there (x.Table h) e = placed (table_store h) (table (table_index h)) (and_parts _ _ e).1
  object_there (x.Memory h) e = placed (memory_store h) (memory (memory_index h)) (and_parts _ _ e).1
  object_there (x.Tag h) e = each_in M [] (all_none M)

  function_leads : (f : Function) → IsFunction m f → LeadsToMembers M m.id f
  function_leads (guest n k) h = there_at m.instances n h.parts h.found
  function_leads (host ty body stored) h =
      λ n y e. object_there y (all_at (owns_extern m) stored n y h.there e)

  -- a function that has a type is there
  typed_there : (f : ℕ) (ty : Signature) → function_type m f ≡ Some ty → is_there m (func f) ≡ true
  typed_there f ty e = by (slice_get m.functions f) refl e where
    by : (o : Option Function) → slice_get m.functions f ≡ o → option_and_then (type_of_function m) o ≡ Some ty
        → is_there m (func f) ≡ true
    by None p q = absurd (none-some ty q)
    by (Some g) p q = there_at m.functions f g p

  module _ (number : ℕ) (i : InstanceParts) (h : IsInstance m number i) where
    abbrev some_imports : List (Option Signature)
    some_imports = map Some (imported as_function i.decl)

    function_named : (k n : ℕ) → slice_get i.functions k ≡ Some n → is_there m (func n) ≡ true
    function_named k n e =
        let a = member i.functions (functions i.decl) k n (sym h.functions_fit.as_many) e in
        by a.0 a.1 where
          at : (k j : ℕ) → k ≡ length some_imports + j → slice_get i.functions k ≡ Some n → is_there m (func n) ≡ true
          at k j e f =
              there_at m.functions n (guest number j)
              (h.defined j n (subst (λ (p : ℕ). slice_get i.functions p ≡ Some n)
              (e ∙ ap (λ (l : ℕ). l + j) (length-map (imported as_function i.decl) Some)) f))

          by : (o : Option Signature) → slice_get (functions i.decl) k ≡ Some o → is_there m (func n) ≡ true
          by (Some ty) p =
              let f : HasFunction m ty n = h.functions_fit.each k (Some ty) n p e ty refl in typed_there n f.ty f.found
          by None p =
              elim (behind some_imports _ k None p) [
                | inl q ↦ no_some (slice_get (imported as_function i.decl) k)
                    (sym (slice_get-map Some (imported as_function i.decl) k) ∙ q)
                | inr q ↦ at k q.0 q.1 e
              ] where
                no_some : (o : Option Signature) → option_map Some o ≡ Some None → is_there m (func n) ≡ true
                no_some None e = absurd (none-some None e)
                no_some (Some t) e = absurd (none-some t (sym (same_Some (Some t) None e)))

    segment_there : (k : ℕ) (items : List RawRef) → slice_get i.elements k ≡ Some items → Each items (IsHeldRef M)
    segment_there k items e =
        let a = member i.elements i.decl.elements k items (sym h.segments) e in
        λ n y q. ref_there y ((h.segments_fit k a.0 items a.1 e).there n y q)

    pub names_there : NamesMembers M i
    names_there = record {
      functions = function_named;
      memories = λ k n e.
          let a = member i.memories (memories i.decl) k n (sym h.memories_fit.as_many) e in
          let f = h.memories_fit.each k a.0 n a.1 e in there_at m.memories n f.memory f.found;
      tables = λ k n e.
          let a = member i.tables (tables i.decl) k n (sym h.tables_fit.as_many) e in
          let f = h.tables_fit.each k a.0 n a.1 e in there_at m.tables n f.table f.found;
      globals = λ k n e.
          let a = member i.globals (globals i.decl) k n (sym h.globals_fit.as_many) e in
          let f = h.globals_fit.each k a.0 n a.1 e in there_at m.globals n f.global f.found;
      elements = segment_there;
    }

  -- what is there leads to what is there
  pub closed_there : IsClosed M m
  closed_there = record {
    functions = λ n f k e. function_leads f (well.functions_are n f e);
    instances = λ n i k e. names_there n i (well.instances_are n i e);
    tables = λ n t k e. λ at y q. ref_there y ((well.tables_are n t e).there at y q);
    globals = λ n g k e. value_there g.value (well.globals_are n g e).there;
  }

  pub links_there : (from to : Node) → is_there m from ≡ true → has (links m from) to ≡ true → is_there m to ≡ true
  links_there from to e l = (links_in M m closed_there from e).by to l
