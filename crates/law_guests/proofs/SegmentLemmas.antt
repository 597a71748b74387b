-- Instances have as many segments in both stores behind a run as before it: outside of the set neither run changes any, and
-- inside of it they are the same.
use Rattle.std.proofs.Common.{◌≡◌, ℕ, ◌<◌, true, false, List, ◌++◌, length, Option, Some, slice_get, refl, sym, ap, ◌∙◌, subst, inl, inr, arith}
use Rattle.std.specs.Prelude.{not, nat_lt, drop, flat_map}
use Rattle.std.proofs.lemmas.Bool.{cases_Bool, false≢true, false_from_ne_true, ltb-true}
use Rattle.std.proofs.lemmas.Option.{same_Some, slice_get_cases}
use Rattle.wasm_objects.specs.Globals.{Global}
use Rattle.wasm_objects.specs.Tables.{Table}
use Rattle.wasm_values.specs.declared.store_id.StoreId.{StoreId}
use Rattle.spec_machine.specs.Machine.{Machine, InstanceParts}
use Rattle.spec_execution.specs.Bodies.{exec}
use Rattle.spec_execution.specs.Commands.{Finish, Replied, Early}
use Rattle.spec_execution.specs.Entering.{entry}
use Rattle.spec_execution.specs.Instantiation.{instantiate}
use Rattle.spec_execution.specs.Outcomes.{World, Outcome, Values, Branch, Return, Over}
use Rattle.spec_reach.specs.Inside.{SameInside}
use Rattle.spec_reach.specs.Nodes.{Node, func, instance, memory, table, global, has, nodes, numbered, is_there}
use Rattle.spec_reach.specs.Outside.{SameOutside, HasSegmentsOf, new_nodes}
use Rattle.spec_reach.specs.Reach.{links, where_there, from_function, from_instance, in_references, in_value, in_object, reach}
use Rattle.spec_reach.specs.ReachLaws.{HoldsReach}
use Rattle.spec_reach.specs.Roots.{roots, call_roots}
use Rattle.spec_reach.proofs.FilterLemmas.{has_front, has_back, has_filter}
use Rattle.spec_reach.proofs.ReachLemmas.{reach_roots}
use Rattle.law_confined.specs.Laws.{left, left_by, all_roots}
use Rattle.law_confined.specs.Shown.{unshown}
use Rattle.law_confined.specs.Sight.{outcome_in, finish_in, SeesAlike}
use Rattle.law_confined.proofs.ClosedSets.{there_has}
use Rattle.law_confined.proofs.Confinement.{law_c_of_sets}
use Rattle.law_confined.proofs.Sight.{law_s_of_sets}
use Rattle.law_plugins.proofs.ThereLemmas.{there_at}
use Rattle.law_guests.specs.Depths.{command_at}
use Rattle.law_guests.specs.Segments.{HasAsMany, HaveAsManySegments, SegmentsStayAsMany}
use Rattle.law_guests.proofs.DepthLemmas.{commands_confine_to_sets, commands_see_sets}

-- a member by its place
there_get : {A : Type 0} (xs : List A) (n : ℕ) → nat_lt n (length xs) ≡ true → (y : A) × (slice_get xs n ≡ Some y)
there_get xs n e =
    elim (slice_get_cases xs n).1 [
      | inl p ↦ (p.0, p.2)
      | inr p ↦ let l : n < length xs = ltb-true n (length xs) e in absurd (omega (arith, p.0, l))
    ]

-- ---- a set that holds what roots lead to in one store does so in the other

module _ (m second : Machine) (set : List Node) (inside : SameInside set m second) where
  nodes_are : nodes second ≡ nodes m
  nodes_are =
      let functions : length second.functions ≡ length m.functions =
      ap (λ (z : Machine). length z.functions) inside.rest in
      λ i. numbered func 0 (functions i) ++ (numbered instance 0 (inside.as_many_instances i)
      ++ (numbered memory 0 (inside.as_many_memories i)
      ++ (numbered table 0 (inside.as_many_tables i) ++ numbered global 0 (inside.as_many_globals i))))

  links_are : (x : Node) → has set x ≡ true → links second x ≡ links m x
  links_are (func k) e = ap (λ (z : Machine). where_there (slice_get z.functions k) (from_function z.id)) inside.rest
  links_are (instance k) e =
      ap (λ (o : Option InstanceParts). where_there o from_instance) (inside.instances k e)
  links_are (memory k) e = refl
  links_are (table k) e =
      ap (λ (o : Option Table). where_there o (λ (t : Table). in_references t.elements)) (inside.tables k e)
  links_are (global k) e =
      ap (λ (o : Option Global). where_there o (λ (g : Global). in_value g.value)) (inside.globals k e)

  holds_too : (from : List Node) → HoldsReach m from set → HoldsReach second from set
  holds_too from h = record {
    rooted = λ x r there. h.rooted x r (subst (λ (xs : List Node). has xs x ≡ true) nodes_are there);
    closed = λ x y e l there.
        h.closed x y e (subst (λ (xs : List Node). has xs y ≡ true) (links_are x e) l)
        (subst (λ (xs : List Node). has xs y ≡ true) nodes_are there);
  }

  -- ---- what runs from the two stores leave

  module _ (v after : Machine) (many : HaveAsManySegments m second) (first_keeps : SameOutside set m v)
      (second_keeps : SameOutside set second after)
      (ends : SameInside (reach v (set ++ new_nodes m v)) v after) where
    -- inside of the set, and what is new
    same_inside :
        (k : ℕ) (i j : InstanceParts) → slice_get v.instances k ≡ Some i → slice_get after.instances k ≡ Some j
        → has (set ++ new_nodes m v) (instance k) ≡ true → HasAsMany i j
    same_inside k i j p q e =
        let there : has (nodes v) (instance k) ≡ true = there_has v (instance k) (there_at v.instances k i p) in
        let same : j ≡ i =
        same_Some j i (sym q ∙ ends.instances k (reach_roots v (set ++ new_nodes m v) (instance k) e there) ∙ p) in
        record {
          elements = ap (λ (x : InstanceParts). length x.elements) same;
          datas = ap (λ (x : InstanceParts). length x.datas) same;
        }

    -- outside of it
    many_outside :
        (k : ℕ) (i j i0 j0 : InstanceParts) → slice_get v.instances k ≡ Some i → slice_get after.instances k ≡ Some j
        → slice_get m.instances k ≡ Some i0 → slice_get second.instances k ≡ Some j0 → has set (instance k) ≡ false
        → HasAsMany i j
    many_outside k i j i0 j0 p q p0 q0 e =
        let a : HasSegmentsOf i0 k v = first_keeps.segments k i0 e p0 in
        let b : HasSegmentsOf j0 k after = second_keeps.segments k j0 e q0 in
        let own : a.now ≡ i = same_Some a.now i (sym a.found ∙ p) in
        let other : b.now ≡ j = same_Some b.now j (sym b.found ∙ q) in
        let before : HasAsMany i0 j0 = many k i0 j0 p0 q0 in
        record {
          elements =
              ap (λ (x : InstanceParts). length x.elements) (sym other) ∙ ap length b.elements ∙ before.elements
              ∙ ap length (sym a.elements) ∙ ap (λ (x : InstanceParts). length x.elements) own;
          datas =
              ap (λ (x : InstanceParts). length x.datas) (sym other) ∙ ap length b.datas ∙ before.datas
              ∙ ap length (sym a.datas) ∙ ap (λ (x : InstanceParts). length x.datas) own;
        }

    not_in : (k : ℕ) → has (set ++ new_nodes m v) (instance k) ≡ false → has set (instance k) ≡ false
    not_in k e =
        false_from_ne_true (has set (instance k))
        (λ s. false≢true (sym e ∙ has_front set (new_nodes m v) (instance k) s))

    not_new :
        (k : ℕ) (i : InstanceParts) → slice_get v.instances k ≡ Some i
        → has (set ++ new_nodes m v) (instance k) ≡ false → is_there m (instance k) ≡ true
    not_new k i p e =
        elim (cases_Bool (is_there m (instance k))) [
          | inl t ↦ t
          | inr f ↦ absurd (false≢true (sym e ∙ has_back set (new_nodes m v) (instance k)
              (has_filter (λ x. not (is_there m x)) (nodes v) (instance k)
              (there_has v (instance k) (there_at v.instances k i p)) (ap not f))))
        ]

    as_many : HaveAsManySegments v after
    as_many k i j p q = elim (cases_Bool (has (set ++ new_nodes m v) (instance k))) [
      | inl e ↦ same_inside k i j p q e
      | inr e ↦
          let first : (y : InstanceParts) × (slice_get m.instances k ≡ Some y) =
          there_get m.instances k (not_new k i p e) in
          let other : (y : InstanceParts) × (slice_get second.instances k ≡ Some y) =
          there_get second.instances k
          (subst (λ (n : ℕ). nat_lt k n ≡ true) (sym inside.as_many_instances) (not_new k i p e)) in
          many_outside k i j first.0 other.0 p q first.1 other.1 (not_in k e)
    ]

-- ---- runs

outcome_left : (t : Machine) (o : Outcome) → left (outcome_in t o) ≡ record (left o) { machine = t }
outcome_left t (Values s) = refl
outcome_left t (Branch l s) = refl
outcome_left t (Return s) = refl
outcome_left t (Over e v) = refl

finish_left : (t : Machine) (o : Finish) → left_by (finish_in t o) ≡ record (left_by o) { machine = t }
finish_left t (Replied answer v) = refl
finish_left t (Early e v) = refl

-- a run from the store and from a second one, that keeps to a set and sees nothing else
module _ {O : Type 0} (left_of : O → World) (in_store : Machine → O → O)
    (left_in : (t : Machine) (o : O) → left_of (in_store t o) ≡ record (left_of o) { machine = t })
    (run : World → O) (from : StoreId → List Node) (set : List Node)
    (confined : (u : World) → HoldsReach u.machine (all_roots (from u.machine.id) u (left_of (run u))) set
    → SameOutside set u.machine (left_of (run u)).machine) (w : World)
    (holds : HoldsReach w.machine (all_roots (from w.machine.id) w (left_of (run w))) set) (second : Machine)
    (inside : SameInside set w.machine second) (sees : SeesAlike left_of in_store run w set second) where
  abbrev u : World
  u = record w { machine = second }

  second_left : left_of (run u) ≡ record (left_of (run w)) { machine = sees.after }
  second_left = ap left_of sees.same ∙ left_in sees.after (run w)

  -- the roots are the same
  same_roots : all_roots (from second.id) u (left_of (run u)) ≡ all_roots (from w.machine.id) w (left_of (run w))
  same_roots =
      ap (λ (v : World). all_roots (from second.id) u v) second_left
      ∙ ap (λ (id : StoreId). from id ++ unshown id (drop (length w.heard) (left_of (run w)).heard))
      (ap (λ (z : Machine). z.id) inside.rest)

  second_confined : SameOutside set second (left_of (run u)).machine
  second_confined =
      confined u
      (subst (λ (xs : List Node). HoldsReach second xs set) (sym same_roots)
      (holds_too w.machine second set inside (all_roots (from w.machine.id) w (left_of (run w))) holds))

  stay_as_many :
      HaveAsManySegments w.machine second → HaveAsManySegments (left_of (run w)).machine (left_of (run u)).machine
  stay_as_many many =
      as_many w.machine second set inside (left_of (run w)).machine (left_of (run u)).machine many (confined w holds)
      second_confined
      (subst (λ (t : Machine). SameInside (reach (left_of (run w)).machine
      (set ++ new_nodes w.machine (left_of (run w)).machine)) (left_of (run w)).machine t)
      (sym (ap (λ (v : World). v.machine) second_left)) sees.inside)

pub segments_stay_as_many : SegmentsStayAsMany
segments_stay_as_many = record {
  calls = λ depth n args caller w set holds second inside.
      stay_as_many left outcome_in outcome_left (entry exec depth n args caller) (λ id. call_roots n args caller) set
      (λ u. law_c_of_sets.calls depth n args caller u set) w holds second inside
      (law_s_of_sets.calls depth n args caller w set holds second inside);
  instantiations = λ depth w d imports set holds second inside.
      stay_as_many left outcome_in outcome_left (λ u. instantiate exec depth u d imports)
      (λ id. flat_map (in_object id) imports) set
      (λ u. law_c_of_sets.instantiations depth u d imports set) w holds second inside
      (law_s_of_sets.instantiations depth w d imports set holds second inside);
  commands = λ depth modules s c w set holds second inside.
      stay_as_many left_by finish_in finish_left (command_at depth modules s c) (λ id. roots id s c) set
      (λ u. commands_confine_to_sets depth modules s c u set) w holds second inside
      (commands_see_sets depth modules s c w set holds second inside);
}
