-- What is appended to a store on the way keeps to the members, where it leads to members: each new place is a member. And
-- what another store is to have alike, so that a new instance is made alike.
use Rattle.std.proofs.Common.{◌≡◌, ◌⊎◌, ℕ, ◌<◌, zero, suc, ◌≤◌, ℤ, Bool, false, List, [], ◌∷◌, ◌++◌, length, slice_get, Some, refl, ◌∙◌, inl, inr, arith, length-append}
use Rattle.std.proofs.lemmas.Bool.{both_ways, cases_Bool, ltb-true, le-ltb}
use Rattle.std.specs.Prelude.{nat_lt}
use Rattle.wasm_types.specs.Each.{Each}
use Rattle.wasm_types.specs.Memories.{Memory}
use Rattle.wasm_types.specs.Signatures.{Signature}
use Rattle.wasm_objects.specs.Globals.{Global}
use Rattle.wasm_objects.specs.Tables.{Table}
use Rattle.spec_machine.specs.Changes.{append_memories, append_tables, append_globals, append_tags, append_functions, append_instance, set_fuel, set_deadline}
use Rattle.spec_machine.specs.Machine.{Machine, Function, InstanceParts, Numbers}
use Rattle.law_store.proofs.Lists.{each_one}
use Rattle.spec_reach.specs.Nodes.{Node, func, instance, memory, table, global, is_there}
use Rattle.law_confined.specs.Members.{IsMember, IsHeld, IsHeldRef, NamesMembers, LeadsToMembers, IsIn}
use Rattle.law_courses.proofs.Bounds.{HasSame}

-- a store with these counts
abbrev pub set_counts : Machine → Numbers → Machine
set_counts m counts = record m { counts = counts }

-- ---- lists with more behind

get_append : {A : Type 0} (xs ys : List A) (n : ℕ) → n < length xs → slice_get (xs ++ ys) n ≡ slice_get xs n
get_append [] ys n h = absurd (omega (arith, h))
get_append (x ∷ xs) ys zero h = refl
get_append (x ∷ xs) ys (suc n) h = get_append xs ys n (omega (arith, h))

-- a member of the first list, or of the second
append_cases :
    {A : Type 0} (xs ys : List A) (n : ℕ) (x : A) → slice_get (xs ++ ys) n ≡ Some x
    → (slice_get xs n ≡ Some x) ⊎ ((k : ℕ) × (slice_get ys k ≡ Some x))
append_cases [] ys n x e = inr (n, e)
append_cases (z ∷ xs) ys zero x e = inl e
append_cases (z ∷ xs) ys (suc n) x e = append_cases xs ys n x e

module _ (M : Node → Bool) (first : Machine) where
  -- what the first store has not is a member
  pub record HoldsNew : Type 0 where
    pub is : (x : Node) → is_there first x ≡ false → IsMember M x

  -- the place of what is no member is one of the first store
  pub in_first :
      (kind : ℕ → Node) (k : ℕ) → ((n : ℕ) → nat_lt n k ≡ false → IsMember M (kind n)) → (n : ℕ) → M (kind n) ≡ false
      → n < k
  in_first kind k new n e =
      elim (cases_Bool (nat_lt n k)) [
        | inl q ↦ ltb-true n k q
        | inr q ↦ absurd (both_ways (M (kind n)) e (new n q))
      ]

  append_outside :
      {A : Type 0} (kind : ℕ → Node) (xs ys zs : List A) → ((n : ℕ) → nat_lt n (length zs) ≡ false → IsMember M (kind n))
      → length zs ≤ length xs → ((n : ℕ) → M (kind n) ≡ false → slice_get xs n ≡ slice_get zs n) → (n : ℕ)
      → M (kind n) ≡ false → slice_get (xs ++ ys) n ≡ slice_get zs n
  append_outside kind xs ys zs new long k n e =
      let within : n < length zs = in_first kind (length zs) new n e in
      get_append xs ys n (omega (arith, within, long)) ∙ k n e

  append_longer : {A : Type 0} (xs ys zs : List A) → length zs ≤ length xs → length zs ≤ length (xs ++ ys)
  append_longer xs ys zs h = omega (arith, length-append xs ys, h)

  append_held :
      {A : Type 0} (kind : ℕ → Node) (P : A → Type 0) (xs ys : List A) → Each ys P
      → ((n : ℕ) (x : A) → IsMember M (kind n) → slice_get xs n ≡ Some x → P x) → (n : ℕ) (x : A)
      → IsMember M (kind n) → slice_get (xs ++ ys) n ≡ Some x → P x
  append_held kind P xs ys p h n x k e =
      elim (append_cases xs ys n x e) [ inl q ↦ h n x k q | inr q ↦ p q.0 x q.1 ]

  module _ (new : HoldsNew) (m : Machine) (h : IsIn M first m) where
    -- ---- each new place is a member

    pub new_function : (n : ℕ) → length m.functions ≤ n → IsMember M (func n)
    new_function n le = new.is (func n) (le-ltb n (length first.functions) (omega (arith, h.longer.functions, le)))

    pub new_instance : (n : ℕ) → length m.instances ≤ n → IsMember M (instance n)
    new_instance n le = new.is (instance n) (le-ltb n (length first.instances) (omega (arith, h.longer.instances, le)))

    pub new_memory : (n : ℕ) → length m.memories ≤ n → IsMember M (memory n)
    new_memory n le = new.is (memory n) (le-ltb n (length first.memories) (omega (arith, h.longer.memories, le)))

    pub new_table : (n : ℕ) → length m.tables ≤ n → IsMember M (table n)
    new_table n le = new.is (table n) (le-ltb n (length first.tables) (omega (arith, h.longer.tables, le)))

    pub new_global : (n : ℕ) → length m.globals ≤ n → IsMember M (global n)
    new_global n le = new.is (global n) (le-ltb n (length first.globals) (omega (arith, h.longer.globals, le)))

    -- ---- each store with more

    pub memories_append : (xs : List Memory) → IsIn M first (append_memories m xs)
    memories_append xs = record {
      id = h.id;
      untouched = record {
        memories =
            append_outside memory m.memories xs first.memories
            (λ n e. new.is (memory n) e) h.longer.memories h.untouched.memories;
        tables = h.untouched.tables;
        globals = h.untouched.globals;
        instances = h.untouched.instances;
      };
      closed = record {
        functions = h.closed.functions;
        instances = h.closed.instances;
        tables = h.closed.tables;
        globals = h.closed.globals;
      };
      longer = record {
        functions = h.longer.functions;
        instances = h.longer.instances;
        memories = append_longer m.memories xs first.memories h.longer.memories;
        tables = h.longer.tables;
        globals = h.longer.globals;
      };
    }

    pub tables_append :
        (ts : List Table) → Each ts (λ (t : Table). Each t.elements (IsHeldRef M)) → IsIn M first (append_tables m ts)
    tables_append ts held = record {
      id = h.id;
      untouched = record {
        memories = h.untouched.memories;
        tables =
            append_outside table m.tables ts first.tables
            (λ n e. new.is (table n) e) h.longer.tables h.untouched.tables;
        globals = h.untouched.globals;
        instances = h.untouched.instances;
      };
      closed = record {
        functions = h.closed.functions;
        instances = h.closed.instances;
        tables = append_held table (λ (t : Table). Each t.elements (IsHeldRef M)) m.tables ts held h.closed.tables;
        globals = h.closed.globals;
      };
      longer = record {
        functions = h.longer.functions;
        instances = h.longer.instances;
        memories = h.longer.memories;
        tables = append_longer m.tables ts first.tables h.longer.tables;
        globals = h.longer.globals;
      };
    }

    pub globals_append :
        (gs : List Global) → Each gs (λ (g : Global). IsHeld M g.value) → IsIn M first (append_globals m gs)
    globals_append gs held = record {
      id = h.id;
      untouched = record {
        memories = h.untouched.memories;
        tables = h.untouched.tables;
        globals =
            append_outside global m.globals gs first.globals
            (λ n e. new.is (global n) e) h.longer.globals h.untouched.globals;
        instances = h.untouched.instances;
      };
      closed = record {
        functions = h.closed.functions;
        instances = h.closed.instances;
        tables = h.closed.tables;
        globals = append_held global (λ (g : Global). IsHeld M g.value) m.globals gs held h.closed.globals;
      };
      longer = record {
        functions = h.longer.functions;
        instances = h.longer.instances;
        memories = h.longer.memories;
        tables = h.longer.tables;
        globals = append_longer m.globals gs first.globals h.longer.globals;
      };
    }

    pub functions_append : (fs : List Function) → Each fs (LeadsToMembers M m.id) → IsIn M first (append_functions m fs)
    functions_append fs lead = record {
      id = h.id;
      untouched = record {
        memories = h.untouched.memories;
        tables = h.untouched.tables;
        globals = h.untouched.globals;
        instances = h.untouched.instances;
      };
      closed = record {
        functions = λ n f k e.
            append_held func (LeadsToMembers M m.id) m.functions fs lead
            (λ j g k' e'. h.closed.functions j g k' e') n f k e;
        instances = h.closed.instances;
        tables = h.closed.tables;
        globals = h.closed.globals;
      };
      longer = record {
        functions = append_longer m.functions fs first.functions h.longer.functions;
        instances = h.longer.instances;
        memories = h.longer.memories;
        tables = h.longer.tables;
        globals = h.longer.globals;
      };
    }

    pub instance_append : (i : InstanceParts) → NamesMembers M i → IsIn M first (append_instance m i)
    instance_append i names = record {
      id = h.id;
      untouched = record {
        memories = h.untouched.memories;
        tables = h.untouched.tables;
        globals = h.untouched.globals;
        instances =
            append_outside instance m.instances (i ∷ []) first.instances
            (λ n e. new.is (instance n) e) h.longer.instances
            h.untouched.instances;
      };
      closed = record {
        functions = h.closed.functions;
        instances =
            append_held instance (NamesMembers M) m.instances (i ∷ [])
            (each_one (NamesMembers M) i names) h.closed.instances;
        tables = h.closed.tables;
        globals = h.closed.globals;
      };
      longer = record {
        functions = h.longer.functions;
        instances = append_longer m.instances (i ∷ []) first.instances h.longer.instances;
        memories = h.longer.memories;
        tables = h.longer.tables;
        globals = h.longer.globals;
      };
    }

  module _ (m : Machine) (h : IsIn M first m) where
    -- tags, fuel, the deadline and the counts lead nowhere
    aside_set :
        (tags : List Signature) (fuel : ℤ) (deadline : ℕ) (counts : Numbers)
        → IsIn M first (record m { tags = tags; fuel = fuel; deadline = deadline; counts = counts })
    aside_set tags fuel deadline counts = record {
      id = h.id;
      untouched = record {
        memories = h.untouched.memories;
        tables = h.untouched.tables;
        globals = h.untouched.globals;
        instances = h.untouched.instances;
      };
      closed = record {
        functions = h.closed.functions;
        instances = h.closed.instances;
        tables = h.closed.tables;
        globals = h.closed.globals;
      };
      longer = record {
        functions = h.longer.functions;
        instances = h.longer.instances;
        memories = h.longer.memories;
        tables = h.longer.tables;
        globals = h.longer.globals;
      };
    }

    pub tags_append : (tys : List Signature) → IsIn M first (append_tags m tys)
    tags_append tys = aside_set (m.tags ++ tys) m.fuel m.deadline m.counts

    pub fuel_set : (fuel : ℤ) → IsIn M first (set_fuel m fuel)
    fuel_set fuel = aside_set m.tags fuel m.deadline m.counts

    pub deadline_set : (deadline : ℕ) → IsIn M first (set_deadline m deadline)
    deadline_set deadline = aside_set m.tags m.fuel deadline m.counts

    pub counts_set : (counts : Numbers) → IsIn M first (set_counts m counts)
    counts_set counts = aside_set m.tags m.fuel m.deadline counts

-- another store for each store on the way takes what is appended alike, has the same functions, tags, counts and limits,
-- as much of each kind, and goes alike with other fuel, another deadline and other counts
pub record SeesNew (M : Node → Bool) (first : Machine) (other : Machine → Machine) : Type 0 where
  pub same : (m : Machine) → IsIn M first m → HasSame m (other m)
  pub tags : (m : Machine) → IsIn M first m → (other m).tags ≡ m.tags
  pub counts : (m : Machine) → IsIn M first m → (other m).counts ≡ m.counts
  pub limits : (m : Machine) → IsIn M first m → (other m).limits ≡ m.limits
  pub memories : (m : Machine) → IsIn M first m → length (other m).memories ≡ length m.memories
  pub tables : (m : Machine) → IsIn M first m → length (other m).tables ≡ length m.tables
  pub globals : (m : Machine) → IsIn M first m → length (other m).globals ≡ length m.globals
  pub append_memories :
      (m : Machine) (xs : List Memory) → IsIn M first m → append_memories (other m) xs ≡ other (append_memories m xs)
  pub append_tables :
      (m : Machine) (ts : List Table) → IsIn M first m → append_tables (other m) ts ≡ other (append_tables m ts)
  pub append_globals :
      (m : Machine) (gs : List Global) → IsIn M first m → append_globals (other m) gs ≡ other (append_globals m gs)
  pub append_tags :
      (m : Machine) (tys : List Signature) → IsIn M first m → append_tags (other m) tys ≡ other (append_tags m tys)
  pub append_functions :
      (m : Machine) (fs : List Function) → IsIn M first m
      → append_functions (other m) fs ≡ other (append_functions m fs)
  pub append_instance :
      (m : Machine) (i : InstanceParts) → IsIn M first m → append_instance (other m) i ≡ other (append_instance m i)
  pub set_fuel : (m : Machine) (fuel : ℤ) → IsIn M first m → set_fuel (other m) fuel ≡ other (set_fuel m fuel)
  pub set_deadline :
      (m : Machine) (deadline : ℕ) → IsIn M first m
      → set_deadline (other m) deadline ≡ other (set_deadline m deadline)
  pub set_counts :
      (m : Machine) (counts : Numbers) → IsIn M first m → set_counts (other m) counts ≡ other (set_counts m counts)

-- the same store does
pub same_sees_new : (M : Node → Bool) (first : Machine) → SeesNew M first (λ m. m)
same_sees_new M first = record {
  same = λ m h. record {
    id = refl;
    engine = refl;
    functions = refl;
    fuel = refl;
    deadline = refl;
    is_limited = refl;
    is_hooked = refl;
    is_behaving = refl;
    instances = refl;
  };
  tags = λ m h. refl;
  counts = λ m h. refl;
  limits = λ m h. refl;
  memories = λ m h. refl;
  tables = λ m h. refl;
  globals = λ m h. refl;
  append_memories = λ m xs h. refl;
  append_tables = λ m ts h. refl;
  append_globals = λ m gs h. refl;
  append_tags = λ m tys h. refl;
  append_functions = λ m fs h. refl;
  append_instance = λ m i h. refl;
  set_fuel = λ m fuel h. refl;
  set_deadline = λ m deadline h. refl;
  set_counts = λ m counts h. refl;
}
