-- The segments of a new instance, and the turn that makes it: all that they write to and drop is a member, and they come to
-- the same in another store.
use Rattle.std.proofs.Common.{◌≡◌, ℕ, suc, Bool, List, [], ◌∷◌, length, slice_get, Option, Some, None, refl, sym, subst, le_refl}
use Rattle.wasm_syntax.specs.declared.declarations.ModuleDecl.{ModuleDecl}
use Rattle.wasm_syntax.specs.declared.segments.DataDecl.{DataDecl}
use Rattle.wasm_syntax.specs.declared.segments.DataMode.{DataMode}
use Rattle.wasm_syntax.specs.declared.segments.DataMode.TheVariants as data_mode
use Rattle.wasm_syntax.specs.declared.segments.ElemDecl.{ElemDecl}
use Rattle.wasm_syntax.specs.declared.segments.ElemMode.{ElemMode}
use Rattle.wasm_syntax.specs.declared.segments.ElemMode.TheVariants as elem_mode
use Rattle.wasm_values.specs.declared.externals.Extern.{Extern}
use Rattle.wasm_objects.specs.declared.raw.RawVal.{RawVal}
use Rattle.spec_machine.specs.Changes.{drop_element, drop_data}
use Rattle.spec_machine.specs.Machine.{Machine, InstanceParts}
use Rattle.spec_execution.specs.Allocation.{global_values, function_numbers, offset_of, allocated}
use Rattle.spec_execution.specs.Operands as on
use Rattle.spec_execution.specs.Segments.{Taken, Done, OutOfRange, StuckSegment, taken_by, drop_taken_element, drop_taken_data, init_table, init_memory, take_element, take_elements, take_data, take_datas, take_segments, make}
use Rattle.spec_execution.specs.Straight.{Effect, Goes, Traps, Sticks}
use Rattle.law_store.proofs.Lists.{each_none}
use Rattle.spec_reach.specs.Nodes.{Node, instance}
use Rattle.law_courses.proofs.Bounds.{effect_in, taken_in}
use Rattle.law_confined.specs.Members.{IsMember, IsHeld, IsIn}
use Rattle.law_confined.proofs.AllocationMembers.{allocated_in, allocated_is, numbers, values}
use Rattle.law_confined.proofs.CountMembers.{AreGiven}
use Rattle.law_confined.proofs.MemberChanges.{element_drop, data_drop}
use Rattle.law_confined.proofs.NewMembers.{HoldsNew, SeesNew, new_instance}
use Rattle.law_confined.proofs.OtherStores.{Sees}
use Rattle.law_confined.proofs.HeldOperands.{AreHeld}
use Rattle.law_confined.proofs.StraightMembers.{GoesIn, StaysIn, memory_in, table_in, elements_in, data_in, copies_in, moves_in}

module _ (M : Node → Bool) (first : Machine) (other : Machine → Machine) (sees : Sees M first other) where
  -- what is left is on the way, and the same in the other store
  abbrev pub TakenIn : Taken → Type 0
  TakenIn (Done m) = IsIn M first m
  TakenIn (OutOfRange t m) = IsIn M first m
  TakenIn (StuckSegment m) = IsIn M first m

  pub record StaysTaken (t t' : Taken) : Type 0 where
    pub by : TakenIn t
    pub same : t' ≡ taken_in other t

  abbrev Onward : (Machine → Taken) → Type 0
  Onward go = (m : Machine) → IsIn M first m → StaysTaken (go m) (go (other m))

  done : Onward Done
  done m h = record { by = h; same = refl }

  -- by what a segment comes to
  by_effect :
      (e : Effect) (m : Machine) (go : Machine → Taken) → GoesIn M first other sees e → IsIn M first m → Onward go
      → StaysTaken (taken_by e m go) (taken_by (effect_in other e) (other m) go)
  by_effect (Goes after locals operands) m go k h j = j after k.0.is
  by_effect (Traps t) m go k h j = record { by = h; same = refl }
  by_effect Sticks m go k h j = record { by = h; same = refl }

  by_both :
      (e e' : Effect) (m : Machine) (go : Machine → Taken) → StaysIn M first other sees e e' → IsIn M first m → Onward go
      → StaysTaken (taken_by e m go) (taken_by e' (other m) go)
  by_both e e' m go s h j =
      subst (λ x. StaysTaken (taken_by e m go) (taken_by x (other m) go)) (sym s.same) (by_effect e m go s.by h j)

  -- ---- of an instance that is a member

  module _ (n : ℕ) (home : IsMember M (instance n)) (fs : List ℕ) (gs : List RawVal) where
    none : AreHeld M first []
    none = record { each = each_none (IsHeld M) }

    table_init :
        (m : Machine) (k table at : ℕ) → IsIn M first m
        → StaysIn M first other sees (init_table n fs gs m k table at) (init_table n fs gs (other m) k table at)
    table_init m k table at h =
        table_in M first other sees n home m h [] [] none none table _ _ (λ x t member held.
        elements_in M first other sees n home m h [] [] none none k _ _ (λ p items e source.
        moves_in M first other sees n home m h [] [] none none [] x t at items 0 (length items) none member held source))

    memory_init :
        (m : Machine) (k memory at : ℕ) → IsIn M first m
        → StaysIn M first other sees (init_memory n fs gs m k memory at) (init_memory n fs gs (other m) k memory at)
    memory_init m k memory at h =
        memory_in M first other sees n home m h [] [] none none memory _ _ (λ x y member.
        data_in M first other sees n home m h [] [] none none k _ _ (λ p bytes e.
        copies_in M first other sees n home m h [] [] none none [] x y at bytes 0 (length bytes) none member))

    -- a store on the way, and the same of the other one
    record Drops (m after after' : Machine) : Type 0 where
      is : IsIn M first after
      same : after' ≡ other after

    dropped_on :
        {A : Type 0} (m : Machine) → IsIn M first m → (o : Option A) (drop drop' : A → Machine)
        → ((a : A) → o ≡ Some a → Drops m (drop a) (drop' a)) → Drops m (on.found m o drop) (on.found (other m) o drop')
    dropped_on m h None drop drop' j = record { is = h; same = refl }
    dropped_on m h (Some a) drop drop' j = j a refl

    dropped :
        {A : Type 0} (m : Machine) → IsIn M first m → (list : InstanceParts → List A) (k : ℕ)
        (drop : Machine → InstanceParts → Machine)
        → ((i : InstanceParts) → slice_get m.instances n ≡ Some i → Drops m (drop m i) (drop (other m) i))
        → Drops m (on.found m (slice_get m.instances n) (λ i. on.found m (slice_get (list i) k) (λ y. drop m i)))
        (on.found (other m) (slice_get (other m).instances n)
        (λ i. on.found (other m) (slice_get (list i) k) (λ y. drop (other m) i)))
    dropped m h list k drop j =
        subst (λ o. Drops m (on.found m (slice_get m.instances n)
        (λ i. on.found m (slice_get (list i) k) (λ y. drop m i)))
        (on.found (other m) o (λ i. on.found (other m) (slice_get (list i) k) (λ y. drop (other m) i))))
        (sym (sees.instances m n h home))
        (dropped_on m h (slice_get m.instances n) _ _ (λ i e.
        dropped_on m h (slice_get (list i) k) _ _ (λ y e'. j i e)))

    element_dropped :
        (m : Machine) (k : ℕ) → IsIn M first m → Drops m (drop_taken_element n k m) (drop_taken_element n k (other m))
    element_dropped m k h =
        dropped m h (λ (i : InstanceParts). i.elements) k (λ x i. drop_element x n i k)
        (λ i e. record { is = element_drop M first m h n k i home e; same = sees.set_instance m n _ h home })

    data_dropped :
        (m : Machine) (k : ℕ) → IsIn M first m → Drops m (drop_taken_data n k m) (drop_taken_data n k (other m))
    data_dropped m k h =
        dropped m h (λ (i : InstanceParts). i.datas) k (λ x i. drop_data x n i k)
        (λ i e. record { is = data_drop M first m h n k i home e; same = sees.set_instance m n _ h home })

    on_dropped :
        (m after after' : Machine) (go : Machine → Taken) → Drops m after after' → Onward go
        → StaysTaken (go after) (go after')
    on_dropped m after after' go d j = subst (λ x. StaysTaken (go after) (go x)) (sym d.same) (j after d.is)

    -- ---- segments in order

    element_taken :
        (m : Machine) (k : ℕ) (mode : ElemMode) (go : Machine → Taken) → IsIn M first m → Onward go
        → StaysTaken (take_element n fs gs m k mode go) (take_element n fs gs (other m) k mode go)
    element_taken m k elem_mode.Passive go h j = j m h
    element_taken m k elem_mode.Declared go h j =
        on_dropped m (drop_taken_element n k m) (drop_taken_element n k (other m)) go (element_dropped m k h) j
    element_taken m k (elem_mode.Active table offset) go h j =
        by_both _ _ m (λ after. go (drop_taken_element n k after)) (table_init m k table (offset_of fs gs offset) h) h
        (λ after ha.
        on_dropped after (drop_taken_element n k after) (drop_taken_element n k (other after)) go
        (element_dropped after k ha) j)

    elements_taken :
        (m : Machine) (k : ℕ) (es : List ElemDecl) (go : Machine → Taken) → IsIn M first m → Onward go
        → StaysTaken (take_elements n fs gs m k es go) (take_elements n fs gs (other m) k es go)
    elements_taken m k [] go h j = j m h
    elements_taken m k (e ∷ more) go h j =
        element_taken m k e.mode (λ after. take_elements n fs gs after (suc k) more go) h
        (λ after ha. elements_taken after (suc k) more go ha j)

    data_taken :
        (m : Machine) (k : ℕ) (mode : DataMode) (go : Machine → Taken) → IsIn M first m → Onward go
        → StaysTaken (take_data n fs gs m k mode go) (take_data n fs gs (other m) k mode go)
    data_taken m k data_mode.Passive go h j = j m h
    data_taken m k (data_mode.Active memory offset) go h j =
        by_both _ _ m (λ after. go (drop_taken_data n k after)) (memory_init m k memory (offset_of fs gs offset) h) h
        (λ after ha.
        on_dropped after (drop_taken_data n k after) (drop_taken_data n k (other after)) go (data_dropped after k ha) j)

    datas_taken :
        (m : Machine) (k : ℕ) (es : List DataDecl) → IsIn M first m
        → StaysTaken (take_datas n fs gs m k es) (take_datas n fs gs (other m) k es)
    datas_taken m k [] h = done m h
    datas_taken m k (e ∷ more) h =
        data_taken m k e.mode (λ after. take_datas n fs gs after (suc k) more) h
        (λ after ha. datas_taken after (suc k) more ha)

    pub segments_taken :
        (m : Machine) (d : ModuleDecl) → IsIn M first m
        → StaysTaken (take_segments n fs gs m d) (take_segments n fs gs (other m) d)
    segments_taken m d h =
        elements_taken m 0 d.elements (λ after. take_datas n fs gs after 0 d.datas) h
        (λ after ha. datas_taken after 0 d.datas ha)

  -- ---- the turn that makes an instance

  by_parts :
      (n n' : ℕ) (fs fs' : List ℕ) (gs gs' : List RawVal) (m m' : Machine) (d : ModuleDecl) → n' ≡ n → fs' ≡ fs → gs' ≡ gs
      → m' ≡ other m → IsMember M (instance n) → IsIn M first m
      → StaysTaken (take_segments n fs gs m d) (take_segments n' fs' gs' m' d)
  by_parts n n' fs fs' gs gs' m m' d e1 e2 e3 e4 home h =
      let all : take_segments n' fs' gs' m' d ≡ take_segments n fs gs (other m) d =
      λ i. take_segments (e1 i) (e2 i) (e3 i) (e4 i) d in
      subst (λ t. StaysTaken (take_segments n fs gs m d) t) (sym all) (segments_taken n home fs gs m d h)

  pub makes :
      (new : HoldsNew M first) (news : SeesNew M first other) (m : Machine) (d : ModuleDecl) (imports : List Extern)
      → IsIn M first m → AreGiven M imports → StaysTaken (make m d imports) (make (other m) d imports)
  makes new news m d imports h given =
      by_parts (length m.instances) (length (other m).instances) (function_numbers m d imports)
      (function_numbers (other m) d imports) (global_values m d imports) (global_values (other m) d imports)
      (allocated m d imports) (allocated (other m) d imports) d (news.same m h).instances
      (numbers M first other new sees news m h d imports given).1
      (values M first other new sees news m h d imports given).1
      (allocated_is M first other new sees news m h d imports given)
      (new_instance M first new m h (length m.instances) (le_refl (length m.instances)))
      (allocated_in M first other new sees news m h d imports given)
