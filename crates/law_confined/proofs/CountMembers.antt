-- The checks and the counts of an instantiation, beside the same in another store: where they pass, each import is a member.
use Rattle.std.proofs.Common.{◌≡◌, ℕ, zero, suc, ◌+◌, Bool, true, false, List, [], ◌∷◌, length, slice_get, Option, Some, None, refl, sym, ap, ◌∙◌, subst}
use Rattle.std.specs.Prelude.{◌&&◌, ⊤, nat_eq, nat_le, nat_lt, if◌then◌else◌, option_and_then, Result, Ok, Err}
use Rattle.std.specs.List.{list_all}
use Rattle.std.specs.Option.{ok_or}
use Rattle.std.proofs.lemmas.Bool.{false≢true, and_parts}
use Rattle.std.proofs.lemmas.Option.{same_Some, none-some}
use Rattle.wasm_types.specs.Each.{Each}
use Rattle.wasm_types.specs.Memories.{Memory}
use Rattle.wasm_types.specs.Signatures.{Signature}
use Rattle.wasm_types.specs.declared.extern_type.ExternType.{ExternType}
use Rattle.wasm_types.specs.declared.extern_type.ExternType.TheVariants as ty
use Rattle.wasm_types.specs.declared.plain.Resource.TheVariants as resource
use Rattle.wasm_syntax.specs.declared.declarations.ImportDecl.{ImportDecl}
use Rattle.wasm_syntax.specs.declared.declarations.ModuleDecl.{ModuleDecl}
use Rattle.wasm_values.specs.Handles.{func_store, func_index, global_store, global_index, table_store, table_index, memory_store, memory_index, tag_store, tag_index}
use Rattle.wasm_values.specs.declared.externals.Extern.{Extern}
use Rattle.wasm_values.specs.declared.externals.Extern.TheVariants as x
use Rattle.wasm_values.specs.declared.refusals.Refusal.{Refusal}
use Rattle.wasm_values.specs.declared.refusals.Refusal.TheVariants as refusal
use Rattle.wasm_values.specs.declared.store_id.StoreId.{StoreId}
use Rattle.wasm_objects.specs.Globals.{Global}
use Rattle.wasm_objects.specs.Tables.{Table}
use Rattle.spec_machine.specs.Machine.{EngineParts, Machine, Function, guest, host, Numbers}
use Rattle.spec_machine.specs.Growth.{pages}
use Rattle.spec_machine.specs.Steps.{◌>>=◌, unless}
use Rattle.spec_machine.specs.ValueCalls.{extern_ty}
use Rattle.spec_machine.specs.Values.{is_id, owns_extern, type_of_function, function_type, defined_type}
use Rattle.spec_execution.specs.Instantiation.{imports_fit, size_of, is_given, is_given_as, first_unmatched_import, no_unmatched_import, Counted, Within, Past, counted, count_instance, count_memories, count_tables}
use Rattle.spec_execution.specs.Operands as on
use Rattle.law_store.proofs.Lists.{each_rest}
use Rattle.spec_reach.specs.Nodes.{Node, func, memory, table, global}
use Rattle.law_confined.specs.Members.{IsMember, IsHeldObject, LeadsToMembers, IsIn}
use Rattle.spec_reach.specs.Reach.{of_store}
use Rattle.law_courses.proofs.Bounds.{counted_in}
use Rattle.law_confined.proofs.NewMembers.{SeesNew, set_counts, counts_set}
use Rattle.law_confined.proofs.OtherStores.{Sees}

module _ (M : Node → Bool) where
  -- an object is a member, by its number; a tag leads nowhere
  abbrev pub IsGiven : Extern → Type 0
  IsGiven (x.Func h) = IsMember M (func (func_index h))
  IsGiven (x.Global h) = IsMember M (global (global_index h))
  IsGiven (x.Table h) = IsMember M (table (table_index h))
  IsGiven (x.Memory h) = IsMember M (memory (memory_index h))
  IsGiven (x.Tag h) = Unit {0}

  abbrev pub AreGiven : List Extern → Type 0
  AreGiven imports = Each imports IsGiven

  -- ---- of a store, a held object is a member

  one_node :
      (id store : StoreId) (y : Node) → is_id store id ≡ true → Each (of_store id store y) (IsMember M) → IsMember M y
  one_node id store y e h = by (is_id store id) e h
    where
      by : (b : Bool) → b ≡ true → Each (if b then y ∷ [] else []) (IsMember M) → IsMember M y
      by true e k = k 0 y refl
      by false e k = absurd (false≢true e)

  held_given : (m : Machine) (y : Extern) → owns_extern m y ≡ true → IsHeldObject M m.id y → IsGiven y
  held_given m (x.Func h) e k = one_node m.id (func_store h) _ (and_parts _ _ e).0 k
  held_given m (x.Global h) e k = one_node m.id (global_store h) _ (and_parts _ _ e).0 k
  held_given m (x.Table h) e k = one_node m.id (table_store h) _ (and_parts _ _ e).0 k
  held_given m (x.Memory h) e k = one_node m.id (memory_store h) _ (and_parts _ _ e).0 k
  held_given m (x.Tag h) e k = tt

  all_given : (m : Machine) (imports : List Extern) → list_all (owns_extern m) imports ≡ true
      → Each imports (IsHeldObject M m.id) → AreGiven imports
  all_given m [] e h n y p = absurd (none-some y p)
  all_given m (z ∷ more) e h zero y p =
      held_given m y (ap (owns_extern m) (sym (same_Some z y p)) ∙ (and_parts _ _ e).0) (h 0 y p)
  all_given m (z ∷ more) e h (suc n) y p =
      all_given m more (and_parts _ _ e).1 (each_rest (IsHeldObject M m.id) z more h) n y p

module _ (M : Node → Bool) (first : Machine) (other : Machine → Machine) (sees : Sees M first other)
    (news : SeesNew M first other) where
  -- ---- counts

  abbrev pub CountedIn : Counted → Type 0
  CountedIn (Within m) = IsIn M first m
  CountedIn (Past which m) = IsIn M first m

  pub record StaysCounted (c c' : Counted) : Type 0 where
    pub by : CountedIn c
    pub same : c' ≡ counted_in other c

  one_by :
      (b b' : Bool) (c c' d d' : Counted) → b' ≡ b → StaysCounted c c' → StaysCounted d d'
      → StaysCounted (if b then c else d) (if b' then c' else d')
  one_by b b' c c' d d' e h k =
      subst (λ t. StaysCounted (if b then c else d) (if t then c' else d')) (sym e) (by b)
    where
      by : (t : Bool) → StaysCounted (if t then c else d) (if t then c' else d')
      by true = h
      by false = k

  module _ (m : Machine) (h : IsIn M first m) where
    past : (which : _) → StaysCounted (Past which m) (Past which (other m))
    past which = record { by = h; same = refl }

    -- the counts become others, by what they were
    module _ (f : Numbers → Numbers) where
      raised_in : IsIn M first (set_counts m (f m.counts))
      raised_in = counts_set M first m h (f m.counts)

      raised : set_counts (other m) (f (other m).counts) ≡ other (set_counts m (f m.counts))
      raised = ap (λ c. set_counts (other m) (f c)) (news.counts m h) ∙ news.set_counts m (f m.counts) h

    -- the test of one
    test_is :
        (f : Numbers → ℕ) (g : Numbers → ℕ) → nat_le (f (other m).counts) (g (other m).limits) ≡ nat_le
        (f m.counts) (g m.limits)
    test_is f g =
        ap (λ c. nat_le (f c) (g (other m).limits)) (news.counts m h) ∙ ap (λ l. nat_le (f m.counts) (g l))
        (news.limits m h)

  tables_in : (n : ℕ) (m : Machine) → IsIn M first m → StaysCounted (count_tables n m) (count_tables n (other m))
  tables_in n m h =
      one_by _ _ _ _ _ _ (test_is m h (λ c. c.tables + n) (λ l. l.tables))
      (record {
        by = raised_in m h (λ c. record c { tables = c.tables + n });
        same = ap Within (raised m h (λ c. record c { tables = c.tables + n }));
      })
      (past m h resource.Table)

  abbrev Onward : (Machine → Counted) → Type 0
  Onward go = (m : Machine) → IsIn M first m → StaysCounted (go m) (go (other m))

  onward :
      (go : Machine → Counted) (m : Machine) (h : IsIn M first m) (f : Numbers → Numbers) → Onward go
      → StaysCounted (go (set_counts m (f m.counts))) (go (set_counts (other m) (f (other m).counts)))
  onward go m h f j =
      subst (λ (n : Machine). StaysCounted (go (set_counts m (f m.counts))) (go n)) (sym (raised m h f))
      (j (set_counts m (f m.counts)) (raised_in m h f))

  memories_in :
      (n : ℕ) (m : Machine) (go : Machine → Counted) → IsIn M first m → Onward go
      → StaysCounted (count_memories n m go) (count_memories n (other m) go)
  memories_in n m go h j =
      one_by _ _ _ _ _ _ (test_is m h (λ c. c.memories + n) (λ l. l.memories))
      (onward go m h (λ c. record c { memories = c.memories + n }) j) (past m h resource.Memory)

  instance_in :
      (m : Machine) (go : Machine → Counted) → IsIn M first m → Onward go
      → StaysCounted (count_instance m go) (count_instance (other m) go)
  instance_in m go h j =
      one_by _ _ _ _ _ _ (test_is m h (λ c. suc c.instances) (λ l. l.instances))
      (onward go m h (λ c. record c { instances = suc c.instances }) j) (past m h resource.Instance)

  pub counts : (m : Machine) (d : ModuleDecl) → IsIn M first m → StaysCounted (counted m d) (counted (other m) d)
  counts m d h =
      instance_in m (λ a. count_memories (length d.memories) a (λ b. count_tables (length d.tables) b)) h
      (λ a ha. memories_in (length d.memories) a (λ b. count_tables (length d.tables) b) ha
      (λ b hb. tables_in (length d.tables) b hb))

  -- ---- the checks

  module _ (m : Machine) (h : IsIn M first m) where
    -- what belongs to a store is the same
    within : (store : StoreId) (n k k' : ℕ) → k' ≡ k
        → (is_id store (other m).id && nat_lt n k') ≡ (is_id store m.id && nat_lt n k)
    within store n k k' e =
        ap (λ i. is_id store i && nat_lt n k') (news.same m h).id ∙ ap (λ j. is_id store m.id && nat_lt n j) e

    pub owned_is : (y : Extern) → owns_extern (other m) y ≡ owns_extern m y
    owned_is (x.Func f) = within (func_store f) (func_index f) _ _ (ap length (news.same m h).functions)
    owned_is (x.Global g) = within (global_store g) (global_index g) _ _ (news.globals m h)
    owned_is (x.Table t) = within (table_store t) (table_index t) _ _ (news.tables m h)
    owned_is (x.Memory y) = within (memory_store y) (memory_index y) _ _ (news.memories m h)
    owned_is (x.Tag t) = within (tag_store t) (tag_index t) _ _ (ap length (news.tags m h))

    pub all_owned : (imports : List Extern) → list_all (owns_extern (other m)) imports ≡ list_all (owns_extern m) imports
    all_owned [] = refl
    all_owned (y ∷ more) =
        ap (λ b. b && list_all (owns_extern (other m)) more) (owned_is y) ∙ ap (λ b. owns_extern m y && b)
        (all_owned more)

    -- the type of a member
    type_by : (o : Option Function) → ((f : Function) → o ≡ Some f → type_of_function (other m) f ≡ type_of_function m f)
        → option_and_then (type_of_function (other m)) o ≡ option_and_then (type_of_function m) o
    type_by None k = refl
    type_by (Some f) k = k f refl

    pub member_type : (n : ℕ) → IsMember M (func n) → function_type (other m) n ≡ function_type m n
    member_type n k =
        ap (λ fs. option_and_then (type_of_function (other m)) (slice_get fs n)) (news.same m h).functions
        ∙ type_by (slice_get m.functions n) (λ f e. one f (h.closed.functions n f k e))
      where
        one : (f : Function) → LeadsToMembers M m.id f → type_of_function (other m) f ≡ type_of_function m f
        one (guest i j) q = ap (option_and_then (λ p. defined_type p j)) (sees.instances m i h q)
        one (host t body stored) q = refl

    same_found : {A : Type 0} (store : StoreId) (o o' : Option A) → o' ≡ o
        → (if is_id store (other m).id then ok_or o' refusal.WrongStore else Err refusal.WrongStore)
        ≡ (if is_id store m.id then ok_or o refusal.WrongStore else Err refusal.WrongStore)
    same_found store o o' e =
        ap (λ i. if is_id store i then ok_or o' refusal.WrongStore else Err refusal.WrongStore) (news.same m h).id
        ∙ ap (λ p. if is_id store m.id then ok_or p refusal.WrongStore else Err refusal.WrongStore) e

    type_is : (y : Extern) → IsGiven M y → extern_ty (other m) y ≡ extern_ty m y
    type_is (x.Func f) k =
        ap (λ (r : Result Signature Refusal). r >>= λ t. Ok (ty.Func t))
        (same_found (func_store f) _ _ (member_type (func_index f) k))
    type_is (x.Global g) k =
        ap (λ (r : Result Global Refusal). (r >>= λ z. Ok z.ty) >>= λ t. Ok (ty.Global t))
        (same_found (global_store g) _ _ (sees.globals m (global_index g) h k))
    type_is (x.Table t) k =
        ap (λ (r : Result Table Refusal). (r >>= λ z. Ok z.ty) >>= λ u. Ok (ty.Table u))
        (same_found (table_store t) _ _ (sees.tables m (table_index t) h k))
    type_is (x.Memory y) k =
        ap (λ (r : Result Memory Refusal). (r >>= λ z. Ok z.ty) >>= λ t. Ok (ty.Memory t))
        (same_found (memory_store y) _ _ (sees.memories m (memory_index y) h k))
    type_is (x.Tag t) k =
        ap (λ (r : Result Signature Refusal). r >>= λ u. Ok (ty.Tag u))
        (same_found (tag_store t) _ _ (ap (λ ts. slice_get ts (tag_index t)) (news.tags m h)))

    size_is : (y : Extern) → IsGiven M y → size_of (other m) y ≡ size_of m y
    size_is (x.Func f) k = refl
    size_is (x.Global g) k = refl
    size_is (x.Table t) k = ap (λ o. on.found 0 o (λ (z : Table). length z.elements)) (sees.tables m (table_index t) h k)
    size_is (x.Memory y) k = ap (λ o. on.found 0 o pages) (sees.memories m (memory_index y) h k)
    size_is (x.Tag t) k = refl

    given_is : (declared : ExternType) (y : Extern) → IsGiven M y → is_given (other m) declared y ≡ is_given m declared y
    given_is declared y k =
        ap (λ n. is_given_as declared n (extern_ty (other m) y)) (size_is y k)
        ∙ ap (is_given_as declared (size_of m y)) (type_is y k)

    stuck_is :
        (n : ℕ) (ds : List ImportDecl) (imports : List Extern) → AreGiven M imports
        → first_unmatched_import (other m) n ds imports ≡ first_unmatched_import m n ds imports
    stuck_is n [] imports k = refl
    stuck_is n (declared ∷ more) [] k = refl
    stuck_is n (declared ∷ more) (y ∷ others) k =
        ap (λ b. if b then first_unmatched_import (other m) (suc n) more others else Some n)
        (given_is declared.ty y (k 0 y refl))
        ∙ ap (λ o. if is_given m declared.ty y then o else Some n)
        (stuck_is (suc n) more others (each_rest (IsGiven M) y others k))

    -- behind the first check
    abbrev behind : Machine → ModuleDecl → List Extern → Result ⊤ Refusal
    behind n d imports = do
      _ ← unless refusal.WrongEngine (nat_eq d.engine.0 n.engine.number)
      _ ← unless refusal.ImportCount (nat_eq (length imports) (length d.imports))
      no_unmatched_import (first_unmatched_import n 0 d.imports imports)

    behind_is :
        (d : ModuleDecl) (imports : List Extern) → AreGiven M imports
        → behind (other m) d imports ≡ behind m d imports
    behind_is d imports k =
        ap (λ (e : EngineParts). unless refusal.WrongEngine (nat_eq d.engine.0 e.number) >>= λ _.
        unless refusal.ImportCount (nat_eq (length imports) (length d.imports)) >>= λ _.
        no_unmatched_import (first_unmatched_import (other m) 0 d.imports imports)) (news.same m h).engine
        ∙ ap (λ (o : Option ℕ). unless refusal.WrongEngine (nat_eq d.engine.0 m.engine.number) >>= λ _.
        unless refusal.ImportCount (nat_eq (length imports) (length d.imports)) >>= λ _. no_unmatched_import o)
        (stuck_is 0 d.imports imports k)

    same_behind :
        (b b' : Bool) (r r' : Result ⊤ Refusal) → b' ≡ b → (b ≡ true → r' ≡ r)
        → (unless refusal.WrongStore b' >>= λ _. r') ≡ (unless refusal.WrongStore b >>= λ _. r)
    same_behind b b' r r' e k =
        ap (λ t. unless refusal.WrongStore t >>= λ _. r') e ∙ by b k
      where
        by :
            (t : Bool) → (t ≡ true → r' ≡ r) → (unless refusal.WrongStore t >>= λ _. r') ≡
            (unless refusal.WrongStore t >>= λ _. r)
        by true j = j refl
        by false j = refl

    first_passed : (b : Bool) (r : Result ⊤ Refusal) → (unless refusal.WrongStore b >>= λ _. r) ≡ Ok tt → b ≡ true
    first_passed true r e = refl
    first_passed false r e = absurd cc

    pub checks :
        (d : ModuleDecl) (imports : List Extern) → Each imports (IsHeldObject M m.id)
        → (imports_fit m d imports ≡ Ok tt → AreGiven M imports)
        × (imports_fit (other m) d imports ≡ imports_fit m d imports)
    checks d imports named = (
      λ e. all_given M m imports (first_passed (list_all (owns_extern m) imports) (behind m d imports) e) named,
      same_behind (list_all (owns_extern m) imports) _ (behind m d imports) (behind (other m) d imports)
          (all_owned imports)
          (λ e. behind_is d imports (all_given M m imports e named)),
    )
