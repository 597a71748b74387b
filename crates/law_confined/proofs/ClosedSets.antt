-- Members lead to members alone just where each node that a member links to is a member; and a set that holds its roots and
-- all that its members lead to is such a one, with what is new.
use Rattle.std.proofs.Common.{◌≡◌, ℕ, zero, suc, ◌+◌, ◌<◌, Bool, true, false, List, [], ◌∷◌, ◌++◌, length, Option, Some, refl, sym, ap, ◌∙◌, subst, inl, inr, arith, le_refl}
use Rattle.std.specs.Prelude.{◌||◌, flat_map, map, not, nat_lt, slice_get}
use Rattle.std.proofs.lemmas.Bool.{false≢true, cases_Bool, ltb-true, lt-ltb, or_cases, or_left, or_right}
use Rattle.std.proofs.lemmas.Option.{none-some, same_Some, slice_get_within}
use Rattle.wasm_types.specs.Each.{Each}
use Rattle.wasm_values.specs.declared.store_id.StoreId.{StoreId}
use Rattle.wasm_objects.specs.Globals.{Global}
use Rattle.wasm_objects.specs.Tables.{Table}
use Rattle.wasm_objects.specs.declared.raw.RawRef.{RawRef}
use Rattle.wasm_objects.specs.declared.raw.RawRef.TheVariants as raw
use Rattle.wasm_objects.specs.declared.raw.RawVal.{RawVal}
use Rattle.wasm_objects.specs.declared.raw.RawVal.TheVariants as w
use Rattle.spec_machine.specs.Machine.{Machine, Function, guest, host, InstanceParts}
use Rattle.spec_reach.specs.Nodes.{Node, func, instance, memory, table, global, has, numbered, nodes, is_there}
use Rattle.spec_reach.specs.Outside.{SameOutside, HasSegmentsOf, new_nodes}
use Rattle.spec_reach.specs.Reach.{in_reference, in_value, in_references, in_object, from_function, from_instance, where_there, links}
use Rattle.spec_reach.specs.ReachLaws.{HoldsReach}
use Rattle.spec_reach.proofs.FilterLemmas.{has_at, has_front, has_back, has_either, filter_has, Kept}
use Rattle.spec_reach.proofs.ReachLemmas.{reach_least}
use Rattle.law_confined.specs.Laws.{KeepsReach}
use Rattle.law_confined.specs.Members.{is_member, IsMember, IsHeld, IsHeldRef, NamesMembers, LeadsToMembers, IsClosed, IsIn}
use Rattle.law_confined.proofs.AllMembers.{AllIn, all_none, all_in, all_front, all_back, each_in, all_each, all_one, one_in, flat_all, all_flat, all_there}
use Rattle.law_confined.proofs.NewMembers.{HoldsNew}

-- what is there by its place
there_at : {A : Type 0} (xs : List A) (n : ℕ) (y : A) → slice_get xs n ≡ Some y → nat_lt n (length xs) ≡ true
there_at xs n y e = lt-ltb n (length xs) (slice_get_within xs n y e)

module _ (M : Node → Bool) where
  -- ---- what leads to members, by its nodes and by its parts

  map_in : (kind : ℕ → Node) (ns : List ℕ) → Each ns (λ n. IsMember M (kind n)) → AllIn M (map kind ns)
  map_in kind [] h = all_none M
  map_in kind (n ∷ ns) h =
      all_in M (kind n ∷ []) (map kind ns) (all_one M (kind n) (h 0 n refl)) (map_in kind ns (λ k x e. h (suc k) x e))

  in_map : (kind : ℕ → Node) (ns : List ℕ) → AllIn M (map kind ns) → Each ns (λ n. IsMember M (kind n))
  in_map kind [] h k x e = absurd (none-some x e)
  in_map kind (n ∷ ns) h zero x e =
      subst (λ y. IsMember M (kind y)) (same_Some n x e) (one_in M (kind n) (map kind ns) h)
  in_map kind (n ∷ ns) h (suc k) x e = in_map kind ns (all_back M (kind n ∷ []) (map kind ns) h) k x e

  ref_in : (y : RawRef) → IsHeldRef M y → AllIn M (in_reference y)
  ref_in (raw.Func n) h = all_one M (func n) h
  ref_in raw.Null h = all_none M
  ref_in (raw.Extern n) h = all_none M
  ref_in (raw.I31 n) h = all_none M

  in_ref : (y : RawRef) → AllIn M (in_reference y) → IsHeldRef M y
  in_ref (raw.Func n) h = one_in M (func n) [] h
  in_ref raw.Null h = tt
  in_ref (raw.Extern n) h = tt
  in_ref (raw.I31 n) h = tt

  refs_in : (items : List RawRef) → Each items (IsHeldRef M) → AllIn M (in_references items)
  refs_in items h = flat_all M in_reference items (λ n y e. ref_in y (h n y e))

  in_refs : (items : List RawRef) → AllIn M (in_references items) → Each items (IsHeldRef M)
  in_refs items h n y e = in_ref y (all_flat M in_reference items h n y e)

  pub value_in : (v : RawVal) → IsHeld M v → AllIn M (in_value v)
  value_in (w.Reference y) h = ref_in y h
  value_in (w.I32 n) h = all_none M
  value_in (w.I64 n) h = all_none M
  value_in (w.F32 n) h = all_none M
  value_in (w.F64 n) h = all_none M
  value_in (w.V128 n) h = all_none M

  pub in_value_held : (v : RawVal) → AllIn M (in_value v) → IsHeld M v
  in_value_held (w.Reference y) h = in_ref y h
  in_value_held (w.I32 n) h = tt
  in_value_held (w.I64 n) h = tt
  in_value_held (w.F32 n) h = tt
  in_value_held (w.F64 n) h = tt
  in_value_held (w.V128 n) h = tt

  function_in : (id : StoreId) (f : Function) → LeadsToMembers M id f → AllIn M (from_function id f)
  function_in id (guest n k) h = all_one M (instance n) h
  function_in id (host ty body stored) h =
      flat_all M (in_object id) stored (λ n y e. all_each M (in_object id y) (h n y e))

  in_function : (id : StoreId) (f : Function) → AllIn M (from_function id f) → LeadsToMembers M id f
  in_function id (guest n k) h = one_in M (instance n) [] h
  in_function id (host ty body stored) h =
      λ n y e. each_in M (in_object id y) (all_flat M (in_object id) stored h n y e)

  elements_in :
      (elements : List (List RawRef)) → Each elements (λ items. Each items (IsHeldRef M))
      → AllIn M (flat_map in_references elements)
  elements_in elements h = flat_all M in_references elements (λ n items e. refs_in items (h n items e))

  in_elements :
      (elements : List (List RawRef)) → AllIn M (flat_map in_references elements)
      → Each elements (λ items. Each items (IsHeldRef M))
  in_elements elements h n items e = in_refs items (all_flat M in_references elements h n items e)

  instance_in : (i : InstanceParts) → NamesMembers M i → AllIn M (from_instance i)
  instance_in i h =
      all_in M _ _ (map_in func i.functions h.functions) (all_in M _ _ (map_in memory i.memories h.memories)
      (all_in M _ _ (map_in table i.tables h.tables) (all_in M _ _ (map_in global i.globals h.globals)
      (elements_in i.elements h.elements))))

  in_instance : (i : InstanceParts) → AllIn M (from_instance i) → NamesMembers M i
  in_instance i h =
      let a = all_back M (map func i.functions) _ h in
      let b = all_back M (map memory i.memories) _ a in
      let c = all_back M (map table i.tables) _ b in
      record {
        functions = in_map func i.functions (all_front M (map func i.functions) _ h);
        memories = in_map memory i.memories (all_front M (map memory i.memories) _ a);
        tables = in_map table i.tables (all_front M (map table i.tables) _ b);
        globals = in_map global i.globals (all_front M (map global i.globals) _ c);
        elements = in_elements i.elements (all_back M (map global i.globals) _ c);
      }

  -- ---- what links lead to

  pub links_in : (m : Machine) → IsClosed M m → (x : Node) → IsMember M x → AllIn M (links m x)
  links_in m h (func n) k =
      all_there M (from_function m.id) (slice_get m.functions n) (λ f e. function_in m.id f (h.functions n f k e))
  links_in m h (instance n) k =
      all_there M from_instance (slice_get m.instances n) (λ i e. instance_in i (h.instances n i k e))
  links_in m h (memory n) k = all_none M
  links_in m h (table n) k =
      all_there M (λ (t : Table). in_references t.elements) (slice_get m.tables n)
      (λ t e. refs_in t.elements (h.tables n t k e))
  links_in m h (global n) k =
      all_there M (λ (g : Global). in_value g.value) (slice_get m.globals n) (λ g e. value_in g.value (h.globals n g k e))

  found_in :
      {A : Type 0} (o : Option A) (f : A → List Node) (y : A) → o ≡ Some y → AllIn M (where_there o f) → AllIn M (f y)
  found_in o f y e h = subst (λ p. AllIn M (where_there p f)) e h

  pub in_links : (m : Machine) → ((x : Node) → IsMember M x → is_there m x ≡ true → AllIn M (links m x)) → IsClosed M m
  in_links m h = record {
    functions = λ n f k e.
        in_function m.id f (found_in (slice_get m.functions n) (from_function m.id) f e
        (h (func n) k (there_at m.functions n f e)));
    instances = λ n i k e.
        in_instance i (found_in (slice_get m.instances n) from_instance i e
        (h (instance n) k (there_at m.instances n i e)));
    tables = λ n t k e.
        in_refs t.elements
        (found_in (slice_get m.tables n) (λ (y : Table). in_references y.elements) t e
        (h (table n) k (there_at m.tables n t e)));
    globals = λ n g k e.
        in_value_held g.value
        (found_in (slice_get m.globals n) (λ (y : Global). in_value y.value) g e
        (h (global n) k (there_at m.globals n g e)));
  }

-- ---- what a store has

numbered_at :
    (kind : ℕ → Node) (from k d : ℕ) → d < k → slice_get (numbered kind from k) d ≡ Some (kind (from + d))
numbered_at kind from zero d lt = absurd (omega (arith, lt))
numbered_at kind from (suc k) zero lt =
    let e : from ≡ from + 0 = omega arith in ap (λ n. Some (kind n)) e
numbered_at kind from (suc k) (suc d) lt =
    let e : suc from + d ≡ from + suc d = omega arith in
    numbered_at kind (suc from) k d (omega (arith, lt)) ∙ ap (λ n. Some (kind n)) e

numbered_has : (kind : ℕ → Node) (k n : ℕ) → nat_lt n k ≡ true → has (numbered kind 0 k) (kind n) ≡ true
numbered_has kind k n e =
    let own : 0 + n ≡ n = omega arith in
    has_at (numbered kind 0 k) n (kind n) (numbered_at kind 0 k n (ltb-true n k e) ∙ ap (λ j. Some (kind j)) own)

-- whatever a store has is among its nodes
module _ (m : Machine) where
  abbrev functions : List Node
  functions = numbered func 0 (length m.functions)

  abbrev instances : List Node
  instances = numbered instance 0 (length m.instances)

  abbrev memories : List Node
  memories = numbered memory 0 (length m.memories)

  abbrev tables : List Node
  tables = numbered table 0 (length m.tables)

  abbrev globals : List Node
  globals = numbered global 0 (length m.globals)

  pub there_has : (x : Node) → is_there m x ≡ true → has (nodes m) x ≡ true
  there_has (func n) e =
      has_front functions (instances ++ (memories ++ (tables ++ globals))) (func n)
      (numbered_has func (length m.functions) n e)
  there_has (instance n) e =
      has_back functions (instances ++ (memories ++ (tables ++ globals))) (instance n)
      (has_front instances (memories ++ (tables ++ globals)) (instance n)
      (numbered_has instance (length m.instances) n e))
  there_has (memory n) e =
      has_back functions (instances ++ (memories ++ (tables ++ globals))) (memory n)
      (has_back instances (memories ++ (tables ++ globals)) (memory n)
      (has_front memories (tables ++ globals) (memory n) (numbered_has memory (length m.memories) n e)))
  there_has (table n) e =
      has_back functions (instances ++ (memories ++ (tables ++ globals))) (table n)
      (has_back instances (memories ++ (tables ++ globals)) (table n)
      (has_back memories (tables ++ globals) (table n)
      (has_front tables globals (table n) (numbered_has table (length m.tables) n e))))
  there_has (global n) e =
      has_back functions (instances ++ (memories ++ (tables ++ globals))) (global n)
      (has_back instances (memories ++ (tables ++ globals)) (global n)
      (has_back memories (tables ++ globals) (global n)
      (has_back tables globals (global n) (numbered_has global (length m.globals) n e))))

-- ---- a set that holds its roots and all that its members lead to, as far as the store has them

module _ (first : Machine) (from set : List Node) (holds : HoldsReach first from set) where
  abbrev M : Node → Bool
  M = is_member first set

  of_set : (x : Node) → has set x ≡ true → IsMember M x
  of_set x e = or_left (has set x) (not (is_there first x)) e

  of_new : (x : Node) → is_there first x ≡ false → IsMember M x
  of_new x e = or_right (has set x) (not (is_there first x)) (ap not e)

  -- what is new is a member
  pub holds_new : HoldsNew M first
  holds_new = record { is = of_new }

  -- a member that is there is of the set
  in_set : (x : Node) → IsMember M x → is_there first x ≡ true → has set x ≡ true
  in_set x k e =
      elim (or_cases (has set x) (not (is_there first x)) k) [
        | inl q ↦ q
        | inr q ↦ absurd (false≢true (sym (ap not e) ∙ q))
      ]

  -- where what is there is of the set, all are members
  all_by : (xs : List Node) → ((x : Node) → has xs x ≡ true → has (nodes first) x ≡ true → has set x ≡ true) → AllIn M xs
  all_by xs k = record {
    by = λ x e. elim (cases_Bool (is_there first x)) [
      | inl q ↦ of_set x (k x e (there_has first x q))
      | inr q ↦ of_new x q
    ];
  }

  pub roots_in : AllIn M from
  roots_in = all_by from holds.rooted

  closed : IsClosed M first
  closed = in_links M first (λ x k e. all_by (links first x) (λ y l there. holds.closed x y (in_set x k e) l there))

  -- so the store itself is on the way
  pub begins : IsIn M first first
  begins = record {
    id = refl;
    untouched = record {
      memories = λ n e. refl;
      tables = λ n e. refl;
      globals = λ n e. refl;
      instances = λ n e. refl;
    };
    closed = closed;
    longer = record {
      functions = le_refl (length first.functions);
      instances = le_refl (length first.instances);
      memories = le_refl (length first.memories);
      tables = le_refl (length first.tables);
      globals = le_refl (length first.globals);
    };
  }

  -- ---- a store on the way

  module _ (after : Machine) (h : IsIn M first after) where
    -- what is outside of the set and is there is no member
    outside : (x : Node) → has set x ≡ false → is_there first x ≡ true → M x ≡ false
    outside x e there = ap (λ b. b || not (is_there first x)) e ∙ ap not there

    segments_there :
        (n : ℕ) (i : InstanceParts) → slice_get after.instances n ≡ Some i → HasSegmentsOf i n after
    segments_there n i e = record { now = i; found = e; elements = refl; datas = refl }

    pub same_outside : SameOutside set first after
    same_outside = record {
      memories = λ n x e f. h.untouched.memories n (outside (memory n) e (there_at first.memories n x f)) ∙ f;
      tables = λ n x e f. h.untouched.tables n (outside (table n) e (there_at first.tables n x f)) ∙ f;
      globals = λ n x e f. h.untouched.globals n (outside (global n) e (there_at first.globals n x f)) ∙ f;
      segments = λ n i e f.
          segments_there n i (h.untouched.instances n (outside (instance n) e (there_at first.instances n i f)) ∙ f);
    }

    from_both : (x : Node) → has (set ++ new_nodes first after) x ≡ true → IsMember M x
    from_both x e =
        elim (has_either set (new_nodes first after) x e) [
          | inl q ↦ of_set x q
          | inr q ↦
              let k : Kept (λ y. not (is_there first y)) (nodes after) x =
              filter_has (λ y. not (is_there first y)) (nodes after) x q in
              or_right (has set x) (not (is_there first x)) k.passes
        ]

    pub keeps_reach : KeepsReach first after set
    keeps_reach x e =
        let k : IsMember M x =
        reach_least after (set ++ new_nodes first after) (IsMember M) (λ y q there. from_both y q)
        (λ y z q l there. (links_in M after h.closed y q).by z l) x e in
        elim (cases_Bool (is_there first x)) [
          | inl q ↦ inl (in_set x k q)
          | inr q ↦ inr q
        ]
