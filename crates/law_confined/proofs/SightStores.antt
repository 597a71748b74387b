-- The second store of sight: at the beginning it is the other store, it takes all that a run appends, and at the end the two
-- stores are the same inside of each set of members.
use Rattle.std.proofs.Common.{◌≡◌, ℕ, zero, suc, ◌<◌, ◌≤◌, Bool, true, false, if◌then◌else◌, List, [], ◌∷◌, length, slice_get, Some, refl, sym, ap, ◌∙◌, subst, inl, inr, arith}
use Rattle.std.specs.Prelude.{not, nat_lt}
use Rattle.std.proofs.lemmas.Bool.{cases_Bool, false≢true, not-true, not_from_false, or_cases, or_right, ltb-false}
use Rattle.std.proofs.lemmas.Option.{same_Some, none-some, slice_get_past}
use Rattle.wasm_types.specs.Memories.{Memory}
use Rattle.wasm_objects.specs.Globals.{Global}
use Rattle.wasm_objects.specs.Tables.{Table}
use Rattle.spec_machine.specs.Machine.{Machine, InstanceParts}
use Rattle.spec_reach.specs.Nodes.{Node, instance, memory, table, global, has, is_there}
use Rattle.spec_reach.specs.Inside.{NamesTheSame, SameInside}
use Rattle.law_courses.proofs.Bounds.{HasSame}
use Rattle.law_confined.specs.Members.{is_member, IsMember, IsIn}
use Rattle.law_confined.specs.Mixed.{mix, mixed}
use Rattle.law_confined.proofs.MixLemmas.{get_mix, append_mix, mix_same}
use Rattle.law_confined.proofs.NewMembers.{HoldsNew, SeesNew, in_first}

module _ {A : Type 0} where
  pub length_mix : (p : ℕ → Bool) (xs us : List A) → length (mix p xs us) ≡ length xs
  length_mix p [] us = refl
  length_mix p (x ∷ xs) [] = refl
  length_mix p (x ∷ xs) (u ∷ us) = ap suc (length_mix (λ k. p (suc k)) xs us)

  left_out : (b : Bool) (x u : A) → b ≡ false → (if b then x else u) ≡ u
  left_out true x u e = absurd (false≢true (sym e))
  left_out false x u e = refl

  -- where the test does not hold, the second list's
  get_other :
      (p : ℕ → Bool) (xs us : List A) (n : ℕ) (y : A) → p n ≡ false → n < length us → slice_get (mix p xs us) n ≡ Some y
      → slice_get us n ≡ Some y
  get_other p [] us n y e h q = absurd (none-some y q)
  get_other p (x ∷ xs) [] n y e h q = absurd (omega (arith, h))
  get_other p (x ∷ xs) (u ∷ us) zero y e h q = ap Some (sym (left_out (p 0) x u e)) ∙ q
  get_other p (x ∷ xs) (u ∷ us) (suc n) y e h q = get_other (λ k. p (suc k)) xs us n y e (omega (arith, h)) q

  -- what is said of two objects in one place: xs is what zs was, but where the test holds
  pub mixed_by :
      (R : A → A → Type 0) (own : (x : A) → R x x) (p : ℕ → Bool) (xs zs us : List A) → length us ≡ length zs
      → ((k : ℕ) → p k ≡ false → k < length zs) → ((k : ℕ) → p k ≡ false → slice_get xs k ≡ slice_get zs k)
      → ((k : ℕ) (x y : A) → slice_get zs k ≡ Some x → slice_get us k ≡ Some y → R x y)
      → (k : ℕ) (x y : A) → slice_get xs k ≡ Some x → slice_get (mix p xs us) k ≡ Some y → R x y
  mixed_by R own p xs zs us many in_zs as_were are k x y e q =
      elim (cases_Bool (p k)) [
        | inl t ↦ subst (R x) (same_Some x y (sym e ∙ sym (get_mix p xs us k t) ∙ q)) (own x)
        | inr f ↦
            let within : k < length us = omega (arith, in_zs k f, many) in
            are k x y (sym (as_were k f) ∙ e) (get_other p xs us k y f within q)
      ]

module _ (set : List Node) (first second : Machine) (inside : SameInside set first second) where
  abbrev pub M : Node → Bool
  M = is_member first set

  abbrev pub other : Machine → Machine
  other = mixed M second

  pub holds_new : HoldsNew M first
  holds_new = record { is = λ x e. or_right (has set x) (not (is_there first x)) (not_from_false (is_there first x) e) }

  -- ---- at the beginning

  both_past :
      {A : Type 0} (us zs : List A) (n : ℕ) → length us ≡ length zs → nat_lt n (length zs) ≡ false
      → slice_get us n ≡ slice_get zs n
  both_past us zs n many e =
      let le : length zs ≤ n = ltb-false n (length zs) e in
      slice_get_past us n (omega (arith, le, many)) ∙ sym (slice_get_past zs n le)

  same_members :
      {A : Type 0} (kind : ℕ → Node) (us zs : List A) → length us ≡ length zs
      → ((n : ℕ) → is_there first (kind n) ≡ nat_lt n (length zs))
      → ((n : ℕ) → has set (kind n) ≡ true → slice_get us n ≡ slice_get zs n) → (n : ℕ) → IsMember M (kind n)
      → slice_get us n ≡ slice_get zs n
  same_members kind us zs many there are n k =
      elim (or_cases (has set (kind n)) (not (is_there first (kind n))) k) [
        | inl q ↦ are n q
        | inr q ↦ both_past us zs n many (sym (there n) ∙ not-true (is_there first (kind n)) q)
      ]

  memories_are : mix (λ n. M (memory n)) first.memories second.memories ≡ second.memories
  memories_are =
      mix_same (λ n. M (memory n)) first.memories second.memories inside.as_many_memories
      (same_members memory second.memories first.memories inside.as_many_memories (λ n. refl) inside.memories)

  tables_are : mix (λ n. M (table n)) first.tables second.tables ≡ second.tables
  tables_are =
      mix_same (λ n. M (table n)) first.tables second.tables inside.as_many_tables
      (same_members table second.tables first.tables inside.as_many_tables (λ n. refl) inside.tables)

  globals_are : mix (λ n. M (global n)) first.globals second.globals ≡ second.globals
  globals_are =
      mix_same (λ n. M (global n)) first.globals second.globals inside.as_many_globals
      (same_members global second.globals first.globals inside.as_many_globals (λ n. refl) inside.globals)

  instances_are : mix (λ n. M (instance n)) first.instances second.instances ≡ second.instances
  instances_are =
      mix_same (λ n. M (instance n)) first.instances second.instances inside.as_many_instances
      (same_members instance second.instances first.instances inside.as_many_instances (λ n. refl) inside.instances)

  abbrev with_lists : List Memory → List Table → List Global → List InstanceParts → Machine
  with_lists ms ts gs is = record first { memories = ms; tables = ts; globals = gs; instances = is }

  pub begins : other first ≡ second
  begins = (λ i. with_lists (memories_are i) (tables_are i) (globals_are i) (instances_are i)) ∙ sym inside.rest

  -- ---- on the way

  mixed_same : (m : Machine) → HasSame m (other m)
  mixed_same m = record {
    id = refl;
    engine = refl;
    functions = refl;
    fuel = refl;
    deadline = refl;
    is_limited = refl;
    is_hooked = refl;
    is_behaving = refl;
    instances = length_mix (λ n. M (instance n)) m.instances second.instances;
  }

  no_more : (n k j : ℕ) → n ≡ k → k ≤ j → n ≤ j
  no_more n k j e le = omega (arith, e, le)

  pub sees_new : SeesNew M first other
  sees_new = record {
    same = λ m h. mixed_same m;
    tags = λ m h. refl;
    counts = λ m h. refl;
    limits = λ m h. refl;
    memories = λ m h. length_mix (λ n. M (memory n)) m.memories second.memories;
    tables = λ m h. length_mix (λ n. M (table n)) m.tables second.tables;
    globals = λ m h. length_mix (λ n. M (global n)) m.globals second.globals;
    append_memories = λ m xs h.
        ap (λ (ys : List Memory). record (other m) { memories = ys })
        (append_mix (λ n. M (memory n)) m.memories second.memories xs
        (no_more _ _ _ inside.as_many_memories h.longer.memories));
    append_tables = λ m ts h.
        ap (λ (ys : List Table). record (other m) { tables = ys })
        (append_mix (λ n. M (table n)) m.tables second.tables ts (no_more _ _ _ inside.as_many_tables h.longer.tables));
    append_globals = λ m gs h.
        ap (λ (ys : List Global). record (other m) { globals = ys })
        (append_mix (λ n. M (global n)) m.globals second.globals gs
        (no_more _ _ _ inside.as_many_globals h.longer.globals));
    append_tags = λ m tys h. refl;
    append_functions = λ m fs h. refl;
    append_instance = λ m i h.
        ap (λ (ys : List InstanceParts). record (other m) { instances = ys })
        (append_mix (λ n. M (instance n)) m.instances second.instances (i ∷ [])
        (no_more _ _ _ inside.as_many_instances h.longer.instances));
    set_fuel = λ m fuel h. refl;
    set_deadline = λ m deadline h. refl;
    set_counts = λ m counts h. refl;
  }

  -- ---- at the end

  -- inside of a set of members
  module _ (v : Machine) (h : IsIn M first v) (members : List Node)
      (in_members : (x : Node) → has members x ≡ true → IsMember M x) where
    names_own : (i : InstanceParts) → NamesTheSame i i
    names_own i = record { decl = refl; functions = refl; tables = refl; memories = refl; globals = refl; tags = refl }

    pub ends : SameInside members v (other v)
    ends = record {
      rest = refl;
      as_many_memories = length_mix (λ n. M (memory n)) v.memories second.memories;
      as_many_tables = length_mix (λ n. M (table n)) v.tables second.tables;
      as_many_globals = length_mix (λ n. M (global n)) v.globals second.globals;
      as_many_instances = length_mix (λ n. M (instance n)) v.instances second.instances;
      memory_types =
          mixed_by (λ x y. y.ty ≡ x.ty) (λ x. refl) (λ n. M (memory n)) v.memories first.memories second.memories
          inside.as_many_memories
          (in_first M first memory (length first.memories)
          (λ n e. holds_new.is (memory n) e)) h.untouched.memories inside.memory_types;
      table_types =
          mixed_by (λ x y. y.ty ≡ x.ty) (λ x. refl) (λ n. M (table n)) v.tables first.tables second.tables
          inside.as_many_tables
          (in_first M first table (length first.tables)
          (λ n e. holds_new.is (table n) e)) h.untouched.tables inside.table_types;
      global_types =
          mixed_by (λ x y. y.ty ≡ x.ty) (λ x. refl) (λ n. M (global n)) v.globals first.globals second.globals
          inside.as_many_globals
          (in_first M first global (length first.globals)
          (λ n e. holds_new.is (global n) e)) h.untouched.globals inside.global_types;
      names =
          mixed_by NamesTheSame names_own (λ n. M (instance n)) v.instances first.instances second.instances
          inside.as_many_instances
          (in_first M first instance (length first.instances)
          (λ n e. holds_new.is (instance n) e)) h.untouched.instances inside.names;
      memories = λ k e. get_mix (λ n. M (memory n)) v.memories second.memories k (in_members (memory k) e);
      tables = λ k e. get_mix (λ n. M (table n)) v.tables second.tables k (in_members (table k) e);
      globals = λ k e. get_mix (λ n. M (global n)) v.globals second.globals k (in_members (global k) e);
      instances = λ k e. get_mix (λ n. M (instance n)) v.instances second.instances k (in_members (instance k) e);
    }
