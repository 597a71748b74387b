-- What instantiation appends leads to members alone, where each import is a member; and it is the same in another store.
use Rattle.std.proofs.Common.{◌≡◌, ℕ, zero, suc, ◌≤◌, Bool, List, [], ◌∷◌, ◌++◌, length, map, drop, slice_get, Option, Some, None, option_map, refl, ap, ◌∙◌, subst, arith, le_refl}
use Rattle.std.specs.List.{cons_option, filter_map}
use Rattle.std.proofs.lemmas.Option.{same_Some, none-some}
use Rattle.wasm_types.specs.Each.{Each}
use Rattle.wasm_types.specs.Memories.{new_memory}
use Rattle.wasm_types.specs.Signatures.{Signature}
use Rattle.wasm_syntax.specs.declared.constants.ConstExpr.{ConstExpr}
use Rattle.wasm_syntax.specs.declared.constants.ConstExpr.TheVariants as c
use Rattle.wasm_syntax.specs.declared.declarations.GlobalDecl.{GlobalDecl}
use Rattle.wasm_syntax.specs.declared.declarations.ModuleDecl.{ModuleDecl}
use Rattle.wasm_syntax.specs.declared.declarations.TableDecl.{TableDecl}
use Rattle.wasm_syntax.specs.declared.segments.DataDecl.{DataDecl}
use Rattle.wasm_syntax.specs.declared.segments.ElemDecl.{ElemDecl}
use Rattle.wasm_values.specs.Externals.{extern_func, extern_global, extern_table, extern_memory, extern_tag}
use Rattle.wasm_values.specs.Handles.{func_index, global_index, table_index, memory_index, tag_index}
use Rattle.wasm_values.specs.declared.externals.Extern.{Extern}
use Rattle.wasm_values.specs.declared.externals.Extern.TheVariants as x
use Rattle.wasm_objects.specs.Globals.{Global, global as global_of}
use Rattle.wasm_objects.specs.Tables.{Table, new_table}
use Rattle.wasm_objects.specs.declared.raw.RawRef.{RawRef}
use Rattle.wasm_objects.specs.declared.raw.RawRef.TheVariants as r
use Rattle.wasm_objects.specs.declared.raw.RawVal.{RawVal}
use Rattle.wasm_objects.specs.declared.raw.RawVal.TheVariants as w
use Rattle.spec_machine.specs.Changes.{append_memories, append_tables, append_globals, append_tags, append_functions, append_instance}
use Rattle.spec_machine.specs.Machine.{Machine, Function, guest, InstanceParts}
use Rattle.spec_execution.specs.Allocation.{value_of, reference_of, from, imported_numbers, function_numbers, table_numbers, memory_numbers, global_numbers, tag_numbers, imported_values, values_from, global_values, new_tables, globals_with, new_globals, new_tags, new_functions, elements_of, new_instance, allocated}
use Rattle.spec_execution.specs.Operands as on
use Rattle.law_store.proofs.Lists.{each_none, each_more, each_append, each_push, each_rest, each_drop, each_replicate}
use Rattle.spec_reach.specs.Nodes.{Node, func, memory, table, global}
use Rattle.law_confined.specs.Members.{IsMember, IsHeld, IsHeldRef, NamesMembers, LeadsToMembers, IsIn}
use Rattle.law_confined.proofs.CountMembers.{IsGiven, AreGiven}
use Rattle.law_confined.proofs.NewMembers as place
use Rattle.law_confined.proofs.NewMembers.{HoldsNew, SeesNew}
use Rattle.law_confined.proofs.OtherStores.{Sees}

-- ---- lists

-- what a function gives of each member
more_given : {Y : Type 0} (P : Y → Type 0) (o : Option Y) (ys : List Y) → ((y : Y) → o ≡ Some y → P y) → Each ys P
    → Each (cons_option o ys) P
more_given P None ys k h = h
more_given P (Some y) ys k h = each_more P y ys (k y refl) h

each_given : {X Y : Type 0} (f : X → Option Y) (P : Y → Type 0) (xs : List X)
    → Each xs (λ x. (y : Y) → f x ≡ Some y → P y) → Each (filter_map f xs) P
each_given f P [] h = each_none P
each_given {X} {Y} f P (x ∷ xs) h =
    more_given P (f x) (filter_map f xs) (h 0 x refl)
    (each_given f P xs (each_rest (λ z. (y : Y) → f z ≡ Some y → P y) x xs h))

same_given :
    {X Y : Type 0} (f g : X → Option Y) (xs : List X) → Each xs (λ x. f x ≡ g x) → filter_map f xs ≡ filter_map g xs
same_given {X} {Y} f g [] h = refl
same_given {X} {Y} f g (x ∷ xs) h =
    ap (λ (o : Option Y). cons_option o (filter_map f xs)) (h 0 x refl)
    ∙ ap (cons_option (g x)) (same_given f g xs (each_rest (λ z. f z ≡ g z) x xs h))

pub each_map : {X Y : Type 0} (f : X → Y) (P : Y → Type 0) (xs : List X) → ((x : X) → P (f x)) → Each (map f xs) P
each_map f P [] h = each_none P
each_map f P (x ∷ xs) h = each_more P (f x) (map f xs) (h x) (each_map f P xs h)

-- numbers in a row, from one that is no less
each_from :
    (P : ℕ → Type 0) (least base count : ℕ) → least ≤ base → ((n : ℕ) → least ≤ n → P n) → Each (from base count) P
each_from P least base zero le h = each_none P
each_from P least base (suc count) le h =
    each_more P base (from (suc base) count) (h base le) (each_from P least (suc base) count (omega (arith, le)) h)

module _ (M : Node → Bool) where
  -- ---- the values of constant expressions, over functions that are members and values that are held

  abbrev AreFunctions : List ℕ → Type 0
  AreFunctions fs = Each fs (λ n. IsMember M (func n))

  abbrev AreHeld : List RawVal → Type 0
  AreHeld vs = Each vs (IsHeld M)

  value_held :
      (fs : List ℕ) (gs : List RawVal) (e : ConstExpr) → AreFunctions fs → AreHeld gs → IsHeld M (value_of fs gs e)
  value_held fs gs (c.I32 n) hf hg = tt
  value_held fs gs (c.I64 n) hf hg = tt
  value_held fs gs (c.F32 bits) hf hg = tt
  value_held fs gs (c.F64 bits) hf hg = tt
  value_held fs gs (c.V128 bits) hf hg = tt
  value_held fs gs (c.RefNull t) hf hg = tt
  value_held fs gs (c.RefFunc f) hf hg = by (slice_get fs f) (hf f)
    where
      by : (o : Option ℕ) → ((n : ℕ) → o ≡ Some n → IsMember M (func n)) → IsHeldRef M (on.found r.Null o r.Func)
      by None k = tt
      by (Some n) k = k n refl
  value_held fs gs (c.GlobalGet g) hf hg = by (slice_get gs g) (hg g)
    where
      by :
          (o : Option RawVal) → ((v : RawVal) → o ≡ Some v → IsHeld M v)
          → IsHeld M (on.found (w.Reference r.Null) o (λ v. v))
      by None k = tt
      by (Some v) k = k v refl

  pub reference_held : (fs : List ℕ) (gs : List RawVal) (e : ConstExpr) → AreFunctions fs → AreHeld gs
      → IsHeldRef M (reference_of fs gs e)
  reference_held fs gs e hf hg = by (value_of fs gs e) (value_held fs gs e hf hg)
    where
      by : (v : RawVal) → IsHeld M v → IsHeldRef M (on.found r.Null (on.reference_in v) (λ y. y))
      by (w.Reference y) k = k
      by v k = tt

  values_held :
      (fs : List ℕ) (gs : List RawVal) (ds : List GlobalDecl) → AreFunctions fs → AreHeld gs
      → AreHeld (values_from fs gs ds)
  values_held fs gs [] hf hg = hg
  values_held fs gs (g ∷ more) hf hg =
      values_held fs _ more hf (each_push (IsHeld M) gs (value_of fs gs g.init) hg (value_held fs gs g.init hf hg))

  globals_held :
      (vs : List RawVal) (ds : List GlobalDecl) → AreHeld vs
      → Each (globals_with vs ds) (λ (g : Global). IsHeld M g.value)
  globals_held [] ds h = each_none (λ (g : Global). IsHeld M g.value)
  globals_held (v ∷ vs) [] h = each_none (λ (g : Global). IsHeld M g.value)
  globals_held (v ∷ vs) (g ∷ more) h =
      each_more (λ (z : Global). IsHeld M z.value) (global_of g.ty v) (globals_with vs more) (h 0 v refl)
      (globals_held vs more (each_rest (IsHeld M) v vs h))

  -- ---- the numbers of imports

  imported_in :
      {A : Type 0} (as_kind : Extern → Option A) (index : A → ℕ) (kind : ℕ → Node) (imports : List Extern)
      → ((y : Extern) (a : A) → as_kind y ≡ Some a → IsGiven M y → IsMember M (kind (index a))) → AreGiven M imports
      → Each (imported_numbers as_kind index imports) (λ n. IsMember M (kind n))
  imported_in {A} as_kind index kind imports h given =
      each_given (λ y. option_map index (as_kind y)) (λ n. IsMember M (kind n)) imports
      (λ n y e. by y (as_kind y) (λ a q. h y a q (given n y e)))
    where
      by : (y : Extern) (o : Option A) → ((a : A) → o ≡ Some a → IsMember M (kind (index a))) → (k : ℕ)
          → option_map index o ≡ Some k → IsMember M (kind k)
      by y None q k e = absurd (none-some k e)
      by y (Some a) q k e = subst (λ j. IsMember M (kind j)) (same_Some (index a) k e) (q a refl)

  functions_in : (imports : List Extern) → AreGiven M imports
      → Each (imported_numbers extern_func func_index imports) (λ n. IsMember M (func n))
  functions_in imports given = imported_in extern_func func_index func imports by given
    where
      by : (y : Extern) (h : _) → extern_func y ≡ Some h → IsGiven M y → IsMember M (func (func_index h))
      by (x.Func z) h e k = subst (λ f. IsMember M (func (func_index f))) (same_Some z h e) k
      by _ h e k = absurd (none-some h e)

  globals_in : (imports : List Extern) → AreGiven M imports
      → Each (imported_numbers extern_global global_index imports) (λ n. IsMember M (global n))
  globals_in imports given = imported_in extern_global global_index global imports by given
    where
      by : (y : Extern) (h : _) → extern_global y ≡ Some h → IsGiven M y → IsMember M (global (global_index h))
      by (x.Global z) h e k = subst (λ f. IsMember M (global (global_index f))) (same_Some z h e) k
      by _ h e k = absurd (none-some h e)

  tables_in : (imports : List Extern) → AreGiven M imports
      → Each (imported_numbers extern_table table_index imports) (λ n. IsMember M (table n))
  tables_in imports given = imported_in extern_table table_index table imports by given
    where
      by : (y : Extern) (h : _) → extern_table y ≡ Some h → IsGiven M y → IsMember M (table (table_index h))
      by (x.Table z) h e k = subst (λ f. IsMember M (table (table_index f))) (same_Some z h e) k
      by _ h e k = absurd (none-some h e)

  memories_in : (imports : List Extern) → AreGiven M imports
      → Each (imported_numbers extern_memory memory_index imports) (λ n. IsMember M (memory n))
  memories_in imports given = imported_in extern_memory memory_index memory imports by given
    where
      by : (y : Extern) (h : _) → extern_memory y ≡ Some h → IsGiven M y → IsMember M (memory (memory_index h))
      by (x.Memory z) h e k = subst (λ f. IsMember M (memory (memory_index f))) (same_Some z h e) k
      by _ h e k = absurd (none-some h e)

module _ (M : Node → Bool) (first : Machine) (other : Machine → Machine) (new : HoldsNew M first)
    (sees : Sees M first other)
    (news : SeesNew M first other) (m : Machine) (h : IsIn M first m) (d : ModuleDecl) (imports : List Extern)
    (given : AreGiven M imports) where
  -- ---- numbers

  each_from_on : (kind : ℕ → Node) (base count : ℕ) → ((n : ℕ) → base ≤ n → IsMember M (kind n))
      → Each (from base count) (λ n. IsMember M (kind n))
  each_from_on kind base count k = each_from (λ n. IsMember M (kind n)) base base count (le_refl base) k

  functions_named : Each (function_numbers m d imports) (λ n. IsMember M (func n))
  functions_named =
      each_append (λ n. IsMember M (func n)) _ _ (functions_in M imports given)
      (each_from_on func _ _ (place.new_function M first new m h))

  tables_named : Each (table_numbers m d imports) (λ n. IsMember M (table n))
  tables_named =
      each_append (λ n. IsMember M (table n)) _ _ (tables_in M imports given)
      (each_from_on table _ _ (place.new_table M first new m h))

  memories_named : Each (memory_numbers m d imports) (λ n. IsMember M (memory n))
  memories_named =
      each_append (λ n. IsMember M (memory n)) _ _ (memories_in M imports given)
      (each_from_on memory _ _ (place.new_memory M first new m h))

  globals_named : Each (global_numbers m d imports) (λ n. IsMember M (global n))
  globals_named =
      each_append (λ n. IsMember M (global n)) _ _ (globals_in M imports given)
      (each_from_on global _ _ (place.new_global M first new m h))

  -- ---- values

  one_held : (n : ℕ) → IsMember M (global n) → (o : Option Global) → slice_get m.globals n ≡ o → (v : RawVal)
      → option_map (λ (g : Global). g.value) o ≡ Some v → IsHeld M v
  one_held n k None e v q = absurd (none-some v q)
  one_held n k (Some g) e v q = subst (IsHeld M) (same_Some g.value v q) (h.closed.globals n g k e)

  imported_held : Each (imported_values m imports) (IsHeld M)
  imported_held =
      each_given (λ n. option_map (λ (g : Global). g.value) (slice_get m.globals n)) (IsHeld M)
      (imported_numbers extern_global global_index imports)
      (λ k n e v q. one_held n (globals_in M imports given k n e) (slice_get m.globals n) refl v q)

  all_held : Each (global_values m d imports) (IsHeld M)
  all_held =
      values_held M (function_numbers m d imports) (imported_values m imports) d.globals functions_named imported_held

  -- ---- new objects

  tables_held : Each (new_tables m d imports) (λ (t : Table). Each t.elements (IsHeldRef M))
  tables_held =
      each_map (λ (t : TableDecl). new_table t.ty
      (reference_of (function_numbers m d imports) (imported_values m imports) t.init))
      (λ (t : Table). Each t.elements (IsHeldRef M)) d.tables
      (λ t. each_replicate (IsHeldRef M) t.ty.minimum _
      (reference_held M (function_numbers m d imports) (imported_values m imports) t.init functions_named imported_held))

  new_globals_held : Each (new_globals m d imports) (λ (g : Global). IsHeld M g.value)
  new_globals_held =
      globals_held M (drop (length (imported_values m imports)) (global_values m d imports)) d.globals
      (each_drop (IsHeld M) (length (imported_values m imports)) (global_values m d imports) all_held)

  functions_lead : Each (new_functions m d) (LeadsToMembers M m.id)
  functions_lead =
      each_map (guest (length m.instances)) (LeadsToMembers M m.id) (from 0 (length d.functions))
      (λ n. place.new_instance M first new m h (length m.instances) (le_refl (length m.instances)))

  elements_held : Each (elements_of m d imports) (λ items. Each items (IsHeldRef M))
  elements_held =
      each_map (λ (e : ElemDecl). map (reference_of (function_numbers m d imports) (global_values m d imports)) e.items)
      (λ items. Each items (IsHeldRef M)) d.elements
      (λ e. each_map (reference_of (function_numbers m d imports) (global_values m d imports)) (IsHeldRef M) e.items
      (λ i. reference_held M (function_numbers m d imports) (global_values m d imports) i functions_named all_held))

  names : NamesMembers M (new_instance m d imports)
  names = record {
    functions = functions_named;
    memories = memories_named;
    tables = tables_named;
    globals = globals_named;
    elements = elements_held;
  }

  -- ---- the same of the other store

  functions_are : function_numbers (other m) d imports ≡ function_numbers m d imports
  functions_are =
      ap (λ (fs : List Function). imported_numbers extern_func func_index imports ++ from (length fs)
      (length d.functions))
      (news.same m h).functions

  tables_are : table_numbers (other m) d imports ≡ table_numbers m d imports
  tables_are =
      ap (λ k. imported_numbers extern_table table_index imports ++ from k (length d.tables)) (news.tables m h)

  memories_are : memory_numbers (other m) d imports ≡ memory_numbers m d imports
  memories_are =
      ap (λ k. imported_numbers extern_memory memory_index imports ++ from k (length d.memories)) (news.memories m h)

  globals_are : global_numbers (other m) d imports ≡ global_numbers m d imports
  globals_are =
      ap (λ k. imported_numbers extern_global global_index imports ++ from k (length d.globals)) (news.globals m h)

  tags_are : tag_numbers (other m) d imports ≡ tag_numbers m d imports
  tags_are =
      ap (λ (ts : List Signature). imported_numbers extern_tag tag_index imports ++ from (length ts) (length d.tags))
      (news.tags m h)

  imported_are : imported_values (other m) imports ≡ imported_values m imports
  imported_are =
      same_given _ _ (imported_numbers extern_global global_index imports)
      (λ k n e. ap (option_map (λ (g : Global). g.value)) (sees.globals m n h (globals_in M imports given k n e)))

  values_are : global_values (other m) d imports ≡ global_values m d imports
  values_are =
      ap (λ fs. values_from fs (imported_values (other m) imports) d.globals) functions_are
      ∙ ap (λ gs. values_from (function_numbers m d imports) gs d.globals) imported_are

  new_tables_are : new_tables (other m) d imports ≡ new_tables m d imports
  new_tables_are =
      ap (λ fs. map (λ (t : TableDecl). new_table t.ty
      (reference_of fs (imported_values (other m) imports) t.init)) d.tables)
      functions_are
      ∙ ap (λ gs. map (λ (t : TableDecl). new_table t.ty
      (reference_of (function_numbers m d imports) gs t.init)) d.tables)
      imported_are

  new_globals_are : new_globals (other m) d imports ≡ new_globals m d imports
  new_globals_are =
      ap (λ (vs : List RawVal). globals_with (drop (length vs)
      (global_values (other m) d imports)) d.globals) imported_are
      ∙ ap (λ vs. globals_with (drop (length (imported_values m imports)) vs) d.globals) values_are

  new_functions_are : new_functions (other m) d ≡ new_functions m d
  new_functions_are = ap (λ n. map (guest n) (from 0 (length d.functions))) (news.same m h).instances

  elements_are : elements_of (other m) d imports ≡ elements_of m d imports
  elements_are =
      ap (λ fs. map (λ (e : ElemDecl). map (reference_of fs
      (global_values (other m) d imports)) e.items) d.elements) functions_are
      ∙ ap (λ gs. map (λ (e : ElemDecl). map (reference_of
      (function_numbers m d imports) gs) e.items) d.elements) values_are

  -- an instance by what differs
  abbrev parts : List ℕ → List ℕ → List ℕ → List ℕ → List ℕ → List (List RawRef) → InstanceParts
  parts fs ts ms gs tags elements = record {
    decl = d;
    functions = fs;
    tables = ts;
    memories = ms;
    globals = gs;
    tags = tags;
    elements = elements;
    datas = map (λ (e : DataDecl). e.bytes) d.datas;
  }

  instance_is : new_instance (other m) d imports ≡ new_instance m d imports
  instance_is = λ i. parts (functions_are i) (tables_are i) (memories_are i) (globals_are i) (tags_are i) (elements_are i)

  -- ---- all of them appended

  abbrev appended : Machine → List Table → List Global → List Function → InstanceParts → Machine
  appended n ts gs fs i =
      append_instance (append_functions (append_tags (append_globals (append_tables (append_memories n
      (map new_memory d.memories)) ts) gs) (new_tags d)) fs) i

  lists_are :
      allocated (other m) d imports
      ≡ appended (other m) (new_tables m d imports) (new_globals m d imports) (new_functions m d)
      (new_instance m d imports)
  lists_are = λ i. appended (other m) (new_tables_are i) (new_globals_are i) (new_functions_are i) (instance_is i)

  abbrev m1 : Machine
  m1 = append_memories m (map new_memory d.memories)

  abbrev m2 : Machine
  m2 = append_tables m1 (new_tables m d imports)

  abbrev m3 : Machine
  m3 = append_globals m2 (new_globals m d imports)

  abbrev m4 : Machine
  m4 = append_tags m3 (new_tags d)

  abbrev m5 : Machine
  m5 = append_functions m4 (new_functions m d)

  h1 : IsIn M first m1
  h1 = place.memories_append M first new m h (map new_memory d.memories)

  h2 : IsIn M first m2
  h2 = place.tables_append M first new m1 h1 (new_tables m d imports) tables_held

  h3 : IsIn M first m3
  h3 = place.globals_append M first new m2 h2 (new_globals m d imports) new_globals_held

  h4 : IsIn M first m4
  h4 = place.tags_append M first m3 h3 (new_tags d)

  h5 : IsIn M first m5
  h5 = place.functions_append M first new m4 h4 (new_functions m d) functions_lead

  pub allocated_in : IsIn M first (allocated m d imports)
  allocated_in = place.instance_append M first new m5 h5 (new_instance m d imports) names

  pub allocated_is : allocated (other m) d imports ≡ other (allocated m d imports)
  allocated_is =
      lists_are
      ∙ ap (λ n. append_instance (append_functions (append_tags (append_globals (append_tables n
      (new_tables m d imports)) (new_globals m d imports)) (new_tags d)) (new_functions m d)) (new_instance m d imports))
      (news.append_memories m (map new_memory d.memories) h)
      ∙ ap (λ n. append_instance (append_functions (append_tags (append_globals n
      (new_globals m d imports)) (new_tags d)) (new_functions m d)) (new_instance m d imports))
      (news.append_tables m1 (new_tables m d imports) h1)
      ∙ ap (λ n. append_instance (append_functions (append_tags n (new_tags d)) (new_functions m d))
      (new_instance m d imports))
      (news.append_globals m2 (new_globals m d imports) h2)
      ∙ ap (λ n. append_instance (append_functions n (new_functions m d)) (new_instance m d imports))
      (news.append_tags m3 (new_tags d) h3)
      ∙ ap (λ n. append_instance n (new_instance m d imports)) (news.append_functions m4 (new_functions m d) h4)
      ∙ news.append_instance m5 (new_instance m d imports) h5

  pub numbers :
      Each (function_numbers m d imports) (λ n. IsMember M (func n))
      × (function_numbers (other m) d imports ≡ function_numbers m d imports)
  numbers = (functions_named, functions_are)

  pub values :
      Each (global_values m d imports) (IsHeld M) × (global_values (other m) d imports ≡ global_values m d imports)
  values = (all_held, values_are)
