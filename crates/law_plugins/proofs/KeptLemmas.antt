-- What a guest reaches is kept by whatever is confined to a set that its reach does not meet.
use Rattle.std.proofs.Common.{◌≡◌, ℕ, ◌<◌, true, false, List, [], ◌∷◌, length, Option, Some, slice_get, refl, sym, ap, ◌∙◌, subst, inl, inr, arith}
use Rattle.std.specs.Cmp.{both_ways}
use Rattle.std.specs.Prelude.{nat_lt}
use Rattle.std.proofs.lemmas.Bool.{false≢true, ltb-true, false_from_ne_true, or_cases, or_left}
use Rattle.std.proofs.lemmas.Option.{same_Some, slice_get_cases}
use Rattle.wasm_types.specs.declared.plain.Mutability.{Mutability}
use Rattle.wasm_types.specs.declared.plain.Mutability.TheVariants.{Const, Var}
use Rattle.wasm_values.specs.declared.store_id.StoreId.{StoreId}
use Rattle.wasm_objects.specs.Globals.{Global}
use Rattle.wasm_objects.specs.Tables.{Table}
use Rattle.spec_machine.specs.GlobalCalls.{is_variable}
use Rattle.spec_machine.specs.Machine.{Machine, Function, InstanceParts}
use Rattle.spec_machine.specs.WellFormed.{IsWellFormed}
use Rattle.spec_reach.specs.Nodes.{Node, func, instance, memory, table, global, same_node, has, nodes, is_there}
use Rattle.spec_reach.specs.Outside.{SameOutside, HasSegmentsOf}
use Rattle.spec_reach.specs.Reach.{links, reach, from_function, from_instance, in_references, in_value, where_there, is_near}
use Rattle.spec_reach.proofs.FilterLemmas.{same_own, same_is, filter_has, Kept}
use Rattle.spec_reach.proofs.ReachLemmas.{reach_is, reach_roots, reach_links, reach_least}
use Rattle.law_store.specs.Later.{Extends, There, IsSame, IsLaterGlobal, IsLaterInstance, IsLaterMemory, IsLaterTable}
use Rattle.law_confined.proofs.ClosedSets.{there_has}
use Rattle.law_plugins.specs.Meeting.{varies, is_private, reach_of, AreApart, IsSameObject, KeepsGuest}
use Rattle.law_plugins.proofs.ThereLemmas.{has_there, there_at, links_there}

-- a list of one node
pub has_one : (x y : Node) → has (y ∷ []) x ≡ true → x ≡ y
has_one x y e =
    elim (or_cases (same_node x y) false e) [ inl p ↦ same_is x y p | inr p ↦ absurd (false≢true p) ]

pub one_has : (x : Node) → has (x ∷ []) x ≡ true
one_has x = or_left (same_node x x) false (same_own x)

-- what is reached is there
pub reached_there : (m : Machine) (roots : List Node) (x : Node) → has (reach m roots) x ≡ true → is_there m x ≡ true
reached_there m roots x e =
    let k : Kept (is_near m (reach m roots)) (nodes m) x =
    filter_has (is_near m (reach m roots)) (nodes m) x
    (subst (λ set. has set x ≡ true) (reach_is m roots) e) in
    has_there m x k.of

-- a member by its place
there_get : {A : Type 0} (xs : List A) (n : ℕ) → nat_lt n (length xs) ≡ true → (y : A) × (slice_get xs n ≡ Some y)
there_get xs n e =
    elim (slice_get_cases xs n).1 [
      | inl p ↦ (p.0, p.2)
      | inr p ↦ let l : n < length xs = ltb-true n (length xs) e in absurd (omega (arith, p.0, l))
    ]

-- ---- objects by their parts

same_instance :
    (i j : InstanceParts) → IsLaterInstance i j → j.elements ≡ i.elements → j.datas ≡ i.datas → j ≡ i
same_instance i j l e d =
    λ k. record {
      decl = l.decl k;
      functions = l.functions k;
      tables = l.tables k;
      memories = l.memories k;
      globals = l.globals k;
      tags = l.tags k;
      elements = e k;
      datas = d k;
    }

same_global : (g h : Global) → h.ty ≡ g.ty → h.value ≡ g.value → h ≡ g
same_global g h t v = λ k. record { ty = t k; value = v k }

-- ---- what is confined to a set

module _ (m after : Machine) (set : List Node) (outside : SameOutside set m after) (later : Extends m after) where
  -- what is there stays there
  pub stays_there : (x : Node) → is_there m x ≡ true → is_there after x ≡ true
  stays_there (func n) e =
      let y = there_get m.functions n e in
      let t : There after.functions n (IsSame y.0) = later.functions n y.0 y.1 in
      there_at after.functions n t.member t.found
  stays_there (instance n) e =
      let y = there_get m.instances n e in
      let t : There after.instances n (IsLaterInstance y.0) = later.instances n y.0 y.1 in
      there_at after.instances n t.member t.found
  stays_there (memory n) e =
      let y = there_get m.memories n e in
      let t : There after.memories n (IsLaterMemory y.0) = later.memories n y.0 y.1 in
      there_at after.memories n t.member t.found
  stays_there (table n) e =
      let y = there_get m.tables n e in
      let t : There after.tables n (IsLaterTable y.0) = later.tables n y.0 y.1 in
      there_at after.tables n t.member t.found
  stays_there (global n) e =
      let y = there_get m.globals n e in
      let t : There after.globals n (IsLaterGlobal y.0) = later.globals n y.0 y.1 in
      there_at after.globals n t.member t.found

  -- a global that is constant, or that is not in the set
  global_same :
      (n : ℕ) (g : Global) → slice_get m.globals n ≡ Some g
      → (is_private m (global n) ≡ true → has set (global n) ≡ false)
      → slice_get after.globals n ≡ slice_get m.globals n
  global_same n g e h = by g.ty.mutability refl where
    t : There after.globals n (IsLaterGlobal g)
    t = later.globals n g e

    by : (u : Mutability) → g.ty.mutability ≡ u → slice_get after.globals n ≡ slice_get m.globals n
    by Const p = t.found ∙ ap Some (same_global g t.member t.says.ty (t.says.constant p)) ∙ sym e
    by Var p =
        outside.globals n g (h (ap varies e ∙ ap is_variable p)) e ∙ sym e

  -- an object that is not in the set, or that is not private
  pub same_object :
      (x : Node) → is_there m x ≡ true → (is_private m x ≡ true → has set x ≡ false) → IsSameObject m after x
  same_object (func n) e h =
      let y = there_get m.functions n e in
      let t : There after.functions n (IsSame y.0) = later.functions n y.0 y.1 in
      t.found ∙ ap Some t.says ∙ sym y.1
  same_object (instance n) e h =
      let y = there_get m.instances n e in
      let s : HasSegmentsOf y.0 n after = outside.segments n y.0 (h refl) y.1 in
      let t : There after.instances n (IsLaterInstance y.0) = later.instances n y.0 y.1 in
      let same : t.member ≡ s.now = same_Some t.member s.now (sym t.found ∙ s.found) in
      let names : IsLaterInstance y.0 s.now = subst (λ i. IsLaterInstance y.0 i) same t.says in
      s.found ∙ ap Some (same_instance y.0 s.now names s.elements s.datas) ∙ sym y.1
  same_object (memory n) e h =
      let y = there_get m.memories n e in outside.memories n y.0 (h refl) y.1 ∙ sym y.1
  same_object (table n) e h =
      let y = there_get m.tables n e in outside.tables n y.0 (h refl) y.1 ∙ sym y.1
  same_object (global n) e h = let y = there_get m.globals n e in global_same n y.0 y.1 h

  -- leads to the same
  same_links : (x : Node) → IsSameObject m after x → links after x ≡ links m x
  same_links (func n) p =
      ap (λ (o : Option Function). where_there o (from_function after.id)) p
      ∙ ap (λ (id : StoreId). where_there (slice_get m.functions n) (from_function id)) later.id
  same_links (instance n) p = ap (λ (o : Option InstanceParts). where_there o from_instance) p
  same_links (memory n) p = refl
  same_links (table n) p =
      ap (λ (o : Option Table). where_there o (λ (t : Table). in_references t.elements)) p
  same_links (global n) p = ap (λ (o : Option Global). where_there o (λ (g : Global). in_value g.value)) p

  -- is as private
  pub same_private : (x : Node) → IsSameObject m after x → is_private after x ≡ is_private m x
  same_private (func n) p = refl
  same_private (instance n) p = refl
  same_private (memory n) p = refl
  same_private (table n) p = refl
  same_private (global n) p = ap varies p

  -- ---- a guest that is apart from the set

  module _ (well : IsWellFormed m) (guest : ℕ) (there : is_there m (instance guest) ≡ true)
      (apart : AreApart m set (reach_of m guest)) where
    abbrev H : List Node
    H = reach_of m guest

    objects : (x : Node) → has H x ≡ true → IsSameObject m after x
    objects x h =
        same_object x (reached_there m (instance guest ∷ []) x h)
        (λ p. false_from_ne_true (has set x) (λ s. apart x p s h))

    leads_alike : (x : Node) → has H x ≡ true → links after x ≡ links m x
    leads_alike x h = same_links x (objects x h)

    goes : (x : Node) → has (reach_of after guest) x ≡ true → has H x ≡ true
    goes x e =
        reach_least after (instance guest ∷ []) (λ y. has H y ≡ true)
        (λ y r t.
        reach_roots m (instance guest ∷ []) y r
        (there_has m y (subst (λ z. is_there m z ≡ true) (sym (has_one y (instance guest) r)) there)))
        (λ y z h l t.
        let k : has (links m y) z ≡ true = subst (λ (xs : List Node). has xs z ≡ true) (leads_alike y h) l in
        reach_links m (instance guest ∷ []) y z h k
        (there_has m z (links_there m well y z (reached_there m (instance guest ∷ []) y h) k)))
        x e

    record IsBoth (x : Node) : Type 0 where
      before : has H x ≡ true
      behind : has (reach_of after guest) x ≡ true

    comes : (x : Node) → has H x ≡ true → has (reach_of after guest) x ≡ true
    comes x e =
        (reach_least m (instance guest ∷ []) IsBoth
        (λ y r t. record {
          before = reach_roots m (instance guest ∷ []) y r t;
          behind = reach_roots after (instance guest ∷ []) y r (there_has after y (stays_there y (has_there m y t)));
        })
        (λ y z b l t. record {
          before = reach_links m (instance guest ∷ []) y z b.before l t;
          behind =
              reach_links after (instance guest ∷ []) y z b.behind
              (subst (λ (xs : List Node). has xs z ≡ true) (sym (leads_alike y b.before)) l)
              (there_has after z (stays_there z (has_there m z t)));
        })
        x e).behind

    pub keeps_guest : KeepsGuest m after guest
    keeps_guest = record {
      reaches = λ x. both_ways (has (reach_of after guest) x) (has H x) (goes x) (comes x);
      objects = objects;
    }
