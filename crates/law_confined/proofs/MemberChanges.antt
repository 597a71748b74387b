-- Each change of a store by its name keeps to the members, where what it writes to is a member and what it writes is held.
use Rattle.std.proofs.Common.{◌≡◌, ◌⊎◌, ℕ, zero, suc, ◌≤◌, Bool, true, false, List, [], ◌∷◌, length, set, slice_get, Some, refl, sym, ap, ◌∙◌, subst, inl, inr, arith, length-set}
use Rattle.std.proofs.lemmas.Bool.{both_ways}
use Rattle.std.proofs.lemmas.Option.{same_Some}
use Rattle.wasm_types.specs.Each.{Each}
use Rattle.wasm_types.specs.Memories.{Memory}
use Rattle.wasm_objects.specs.Globals.{Global}
use Rattle.wasm_objects.specs.Tables.{Table}
use Rattle.wasm_objects.specs.declared.raw.RawRef.{RawRef}
use Rattle.spec_machine.specs.Changes.{set_memory, set_table, set_global, set_instance, drop_element, drop_data}
use Rattle.spec_machine.specs.Machine.{Machine, InstanceParts}
use Rattle.law_store.proofs.Lists.{each_none, each_set}
use Rattle.spec_reach.specs.Nodes.{Node, instance, memory, table, global}
use Rattle.law_confined.specs.Members.{IsMember, IsHeld, IsHeldRef, NamesMembers, IsIn}

get_set_other : {A : Type 0} (xs : List A) (i j : ℕ) (y : A) → (i ≡ j → ⊥) → slice_get (set xs i y) j ≡ slice_get xs j
get_set_other [] i j y h = refl
get_set_other (a ∷ xs) zero zero y h = absurd (h refl)
get_set_other (a ∷ xs) zero (suc j) y h = refl
get_set_other (a ∷ xs) (suc i) zero y h = refl
get_set_other (a ∷ xs) (suc i) (suc j) y h = get_set_other xs i j y (λ e. h (ap suc e))

-- what is in a list with another member, by its place
get_set : {A : Type 0} (xs : List A) (i j : ℕ) (y x : A) → slice_get (set xs i y) j ≡ Some x
    → ((j ≡ i) × (x ≡ y)) ⊎ (slice_get xs j ≡ Some x)
get_set [] i j y x e = inr e
get_set (a ∷ xs) zero zero y x e = inl (refl, sym (same_Some y x e))
get_set (a ∷ xs) zero (suc j) y x e = inr e
get_set (a ∷ xs) (suc i) zero y x e = inr e
get_set (a ∷ xs) (suc i) (suc j) y x e =
    elim (get_set xs i j y x e) [ inl h ↦ inl (ap suc h.0, h.1) | inr h ↦ inr h ]

module _ (M : Node → Bool) (first : Machine) where
  -- the place of what is no member is another than that of a member
  apart : (kind : ℕ → Node) (i j : ℕ) → IsMember M (kind i) → M (kind j) ≡ false → i ≡ j → ⊥
  apart kind i j h e same = both_ways (M (kind j)) e (subst (λ n. M (kind n) ≡ true) same h)

  set_outside :
      {A : Type 0} (kind : ℕ → Node) (xs ys : List A) (i : ℕ) (y : A) → IsMember M (kind i)
      → ((n : ℕ) → M (kind n) ≡ false → slice_get xs n ≡ slice_get ys n) → (n : ℕ) → M (kind n) ≡ false
      → slice_get (set xs i y) n ≡ slice_get ys n
  set_outside kind xs ys i y h k n e = get_set_other xs i n y (apart kind i n h e) ∙ k n e

  set_longer : {A : Type 0} (xs ys : List A) (i : ℕ) (y : A) → length ys ≤ length xs → length ys ≤ length (set xs i y)
  set_longer xs ys i y h = omega (arith, length-set xs i y, h)

  set_held :
      {A : Type 0} (kind : ℕ → Node) (P : A → Type 0) (xs : List A) (i : ℕ) (y : A) → P y
      → ((n : ℕ) (x : A) → IsMember M (kind n) → slice_get xs n ≡ Some x → P x) → (n : ℕ) (x : A)
      → IsMember M (kind n) → slice_get (set xs i y) n ≡ Some x → P x
  set_held kind P xs i y p h n x k e =
      elim (get_set xs i n y x e) [ inl q ↦ subst P (sym q.1) p | inr q ↦ h n x k q ]

  module _ (m : Machine) (h : IsIn M first m) where
    pub memory_set : (n : ℕ) (x : Memory) → IsMember M (memory n) → IsIn M first (set_memory m n x)
    memory_set n x k = record {
      id = h.id;
      untouched = record {
        memories = set_outside memory m.memories first.memories n x k h.untouched.memories;
        tables = h.untouched.tables;
        globals = h.untouched.globals;
        instances = h.untouched.instances;
      };
      closed = record {
        functions = h.closed.functions;
        instances = h.closed.instances;
        tables = h.closed.tables;
        globals = h.closed.globals;
      };
      longer = record {
        functions = h.longer.functions;
        instances = h.longer.instances;
        memories = set_longer m.memories first.memories n x h.longer.memories;
        tables = h.longer.tables;
        globals = h.longer.globals;
      };
    }

    pub table_set :
        (n : ℕ) (t : Table) → IsMember M (table n) → Each t.elements (IsHeldRef M) → IsIn M first (set_table m n t)
    table_set n t k held = record {
      id = h.id;
      untouched = record {
        memories = h.untouched.memories;
        tables = set_outside table m.tables first.tables n t k h.untouched.tables;
        globals = h.untouched.globals;
        instances = h.untouched.instances;
      };
      closed = record {
        functions = h.closed.functions;
        instances = h.closed.instances;
        tables = set_held table (λ (x : Table). Each x.elements (IsHeldRef M)) m.tables n t held h.closed.tables;
        globals = h.closed.globals;
      };
      longer = record {
        functions = h.longer.functions;
        instances = h.longer.instances;
        memories = h.longer.memories;
        tables = set_longer m.tables first.tables n t h.longer.tables;
        globals = h.longer.globals;
      };
    }

    pub global_set : (n : ℕ) (g : Global) → IsMember M (global n) → IsHeld M g.value → IsIn M first (set_global m n g)
    global_set n g k held = record {
      id = h.id;
      untouched = record {
        memories = h.untouched.memories;
        tables = h.untouched.tables;
        globals = set_outside global m.globals first.globals n g k h.untouched.globals;
        instances = h.untouched.instances;
      };
      closed = record {
        functions = h.closed.functions;
        instances = h.closed.instances;
        tables = h.closed.tables;
        globals = set_held global (λ (x : Global). IsHeld M x.value) m.globals n g held h.closed.globals;
      };
      longer = record {
        functions = h.longer.functions;
        instances = h.longer.instances;
        memories = h.longer.memories;
        tables = h.longer.tables;
        globals = set_longer m.globals first.globals n g h.longer.globals;
      };
    }

    pub instance_set :
        (n : ℕ) (i : InstanceParts) → IsMember M (instance n) → NamesMembers M i → IsIn M first (set_instance m n i)
    instance_set n i k names = record {
      id = h.id;
      untouched = record {
        memories = h.untouched.memories;
        tables = h.untouched.tables;
        globals = h.untouched.globals;
        instances = set_outside instance m.instances first.instances n i k h.untouched.instances;
      };
      closed = record {
        functions = h.closed.functions;
        instances = set_held instance (NamesMembers M) m.instances n i names h.closed.instances;
        tables = h.closed.tables;
        globals = h.closed.globals;
      };
      longer = record {
        functions = h.longer.functions;
        instances = set_longer m.instances first.instances n i h.longer.instances;
        memories = h.longer.memories;
        tables = h.longer.tables;
        globals = h.longer.globals;
      };
    }

    pub element_drop :
        (n k : ℕ) (i : InstanceParts) → IsMember M (instance n) → slice_get m.instances n ≡ Some i
        → IsIn M first (drop_element m n i k)
    element_drop n k i there e =
        let names : NamesMembers M i = h.closed.instances n i there e in
        instance_set n _ there (record {
          functions = names.functions;
          memories = names.memories;
          tables = names.tables;
          globals = names.globals;
          elements =
              each_set (λ (items : List RawRef). Each items (IsHeldRef M)) i.elements k [] names.elements
              (each_none (IsHeldRef M));
        })

    pub data_drop :
        (n k : ℕ) (i : InstanceParts) → IsMember M (instance n) → slice_get m.instances n ≡ Some i
        → IsIn M first (drop_data m n i k)
    data_drop n k i there e =
        let names : NamesMembers M i = h.closed.instances n i there e in
        instance_set n _ there (record {
          functions = names.functions;
          memories = names.memories;
          tables = names.tables;
          globals = names.globals;
          elements = names.elements;
        })
