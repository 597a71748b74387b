-- A set on the way to what is reached: it begins with the roots, and it is there once all of its members were looked
-- at.
use Rattle.std.proofs.Common.{◌≡◌, ◌⊎◌, ℕ, zero, suc, ◌+◌, ◌<◌, ◌≤◌, Bool, true, false, List, [], ◌∷◌, length, map, Option, Some, None, slice_get, refl, sym, ap, ◌∙◌, subst, inl, inr, arith}
use Rattle.std.specs.Cmp.{both_ways}
use Rattle.std.specs.Prelude.{get_or, if◌then◌else◌}
use Rattle.std.proofs.lemmas.Bool.{cases_lt, false≢true, or_cases, or_left, or_right}
use Rattle.std.proofs.lemmas.Option.{none-some, same_Some, slice_get_cases, slice_get_within}
use Rattle.spec_machine.specs.Machine.{Machine}
use Rattle.spec_machine.specs.WellFormed.{IsWellFormed}
use Rattle.spec_reach.specs.Nodes.{Node as Reached, func, instance, memory, table, global, same_node, has, is_there}
use Rattle.spec_reach.specs.Reach.{links, reach}
use Rattle.spec_reach.specs.ReachLaws.{HoldsReach}
use Rattle.spec_reach.proofs.FilterLemmas.{same_own, same_is, has_at, at_has, has_front, has_back, has_either}
use Rattle.spec_reach.proofs.ReachLemmas.{reach_roots, reach_links, reach_is_least}
use Rattle.store_objects.specs.Links.{places, member}
use Rattle.store_objects.specs.declared.node.Node.{Node}
use Rattle.store_objects.specs.declared.node.Node.TheVariants as node
use Rattle.law_store.proofs.Slices.{slice_append_left}
use Rattle.law_confined.proofs.ClosedSets.{there_has}
use Rattle.law_plugins.proofs.KeptLemmas.{reached_there}
use Rattle.law_plugins.proofs.ThereLemmas.{has_there, links_there}
use Rattle.wasm_store.specs.LinkLaws.{as_reached}
use Rattle.wasm_store.proofs.LinkLaws.{links_lead_on, placed as placed_at, is_member as at_place, members}
use Rattle.store_reach.specs.Sets.{placed, all_placed, members_of, if_there, Adds, IsReach, IsOnTheWay}

-- ---- nodes of both kinds

of_reached : Reached → Node
of_reached (func n) = node.Func n
of_reached (instance n) = node.Instance n
of_reached (memory n) = node.Memory n
of_reached (table n) = node.Table n
of_reached (global n) = node.Global n

and_back : (y : Reached) → as_reached (of_reached y) ≡ y
unfolding of_reached
and_back (func n) = refl
and_back (instance n) = refl
and_back (memory n) = refl
and_back (table n) = refl
and_back (global n) = refl

same_members : (xs : List (Option Node)) → all_placed xs ≡ members xs
same_members [] = refl
same_members (None ∷ xs) = same_members xs
same_members (Some x ∷ xs) = ap (λ (l : List Reached). as_reached x ∷ l) (same_members xs)

-- what stands at the places of an object is that to which it leads
module _ (m : Machine) (from : Node) where
  leads_there : (y : Reached) → has (all_placed (places m from)) y ≡ true → has (links m (as_reached from)) y ≡ true
  leads_there y e =
      let p = subst (λ (l : List Reached). has l y ≡ true) (same_members (places m from)) e in
      let q = subst (λ z. has (members (places m from)) z ≡ true) (sym (and_back y)) p in
      subst (λ z. has (links m (as_reached from)) z ≡ true) (and_back y)
      ((links_lead_on m from (of_reached y)).1 (placed_at (places m from) (of_reached y) q))

  stands_there : (y : Reached) → has (links m (as_reached from)) y ≡ true → has (all_placed (places m from)) y ≡ true
  stands_there y e =
      let p = (links_lead_on m from (of_reached y)).0
      (subst (λ z. has (links m (as_reached from)) z ≡ true) (sym (and_back y)) e) in
      let q = at_place (places m from) (of_reached y) p.0 p.1 in
      subst (λ (l : List Reached). has l y ≡ true) (sym (same_members (places m from)))
      (subst (λ z. has (members (places m from)) z ≡ true) (and_back y) q)

past_end : (xs : List Reached) (k : ℕ) → slice_get xs k ≡ None → length xs ≤ k
past_end xs k e =
    elim (slice_get_cases xs k).1 [
      | inl p ↦ absurd (none-some p.0 (sym e ∙ p.2))
      | inr p ↦ p.0
    ]

-- ---- what was added

module _ (a xs b : List Reached) (h : Adds a xs b) where
  stays : (y : Reached) → has a y ≡ true → has b y ≡ true
  stays y e = h.added y ∙ or_left (has a y) (has xs y) e

  comes : (y : Reached) → has xs y ≡ true → has b y ≡ true
  comes y e = h.added y ∙ or_right (has a y) (has xs y) e

  either : (y : Reached) → has b y ≡ true → (has a y ≡ true) ⊎ (has xs y ≡ true)
  either y e = or_cases (has a y) (has xs y) (sym (h.added y) ∙ e)

-- ---- the beginning

module _ (m : Machine) where
  placed_is : (b : Bool) (root : Node) (x : Reached) → has (placed (if b then Some root else None)) x ≡ true →
      (b ≡ true) × (x ≡ as_reached root)
  placed_is true root x e =
      elim (or_cases (same_node x (as_reached root)) false e) [
        | inl p ↦ (refl, same_is x (as_reached root) p)
        | inr p ↦ absurd (false≢true p)
      ]
  placed_is false root x e = absurd (false≢true e)

  is_placed : (b : Bool) (root : Node) → b ≡ true → has (placed (if b then Some root else None)) (as_reached root) ≡ true
  is_placed true root e = or_left (same_node (as_reached root) (as_reached root)) false (same_own (as_reached root))
  is_placed false root e = absurd (false≢true e)

  -- those that are there are roots, and are all that are there
  there_of : (roots : List Node) (x : Reached) → has (all_placed (map (if_there m) roots)) x ≡ true →
      (has (members_of roots) x ≡ true) × (is_there m x ≡ true)
  there_of [] x e = absurd (false≢true e)
  there_of (root ∷ roots) x e =
      elim (has_either (placed (if_there m root)) (all_placed (map (if_there m) roots)) x e) [
        | inl p ↦
            let q = placed_is (is_there m (as_reached root)) root x p in (
              or_left (same_node x (as_reached root)) (has (members_of roots) x)
                  (subst (λ z. same_node x z ≡ true) q.1 (same_own x)),
              subst (λ z. is_there m z ≡ true) (sym q.1) q.0,
            )
        | inr p ↦
            let q = there_of roots x p in (or_right (same_node x (as_reached root)) (has (members_of roots) x) q.0, q.1)
      ]

  of_there : (roots : List Node) (x : Reached) → has (members_of roots) x ≡ true → is_there m x ≡ true →
      has (all_placed (map (if_there m) roots)) x ≡ true
  of_there [] x e t = absurd (false≢true e)
  of_there (root ∷ roots) x e t =
      elim (or_cases (same_node x (as_reached root)) (has (members_of roots) x) e) [
        | inl p ↦
            let is = same_is x (as_reached root) p in
            has_front (placed (if_there m root)) (all_placed (map (if_there m) roots)) x
            (subst (λ z. has (placed (if_there m root)) z ≡ true) (sym is)
            (is_placed (is_there m (as_reached root)) root (subst (λ z. is_there m z ≡ true) is t)))
        | inr p ↦
            has_back (placed (if_there m root)) (all_placed (map (if_there m) roots)) x (of_there roots x p t)
      ]

  pub way_begins : (roots : List Node) (set : List Reached) → Adds [] (all_placed (map (if_there m) roots)) set →
      IsOnTheWay m (members_of roots) 0 set
  way_begins roots set h = record {
    rooted = λ x e t. comes [] (all_placed (map (if_there m) roots)) set h x (of_there roots x e t);
    within = λ x e. elim (either [] (all_placed (map (if_there m) roots)) set h x e) [
      | inl p ↦ absurd (false≢true p)
      | inr p ↦ let q = there_of roots x p in reach_roots m (members_of roots) x q.0 (there_has m x q.1)
    ];
    closed = λ i x y l e k. absurd (omega (arith, l));
  }

  -- ---- one more member

  pub way_on : IsWellFormed m → (roots : List Reached) (k : ℕ) (a b : List Reached) (x : Node) →
      slice_get a k ≡ Some (as_reached x) → Adds a (all_placed (places m x)) b → IsOnTheWay m roots k a →
      IsOnTheWay m roots (k + 1) b
  way_on well roots k a b x at h w = record {
    rooted = λ y e t. stays a (all_placed (places m x)) b h y (w.rooted y e t);
    within = λ y e. elim (either a (all_placed (places m x)) b h y e) [
      | inl p ↦ w.within y p
      | inr p ↦
          let l = leads_there m x y p in
          let r : has (reach m roots) (as_reached x) ≡ true = w.within (as_reached x) (has_at a k (as_reached x) at) in
          reach_links m roots (as_reached x) y r l
          (there_has m y (links_there m well (as_reached x) y (reached_there m roots (as_reached x) r) l))
    ];
    closed = λ i z y l e q. elim (cases_lt i k) [
      | inl less ↦
          let within : k < length a = slice_get_within a k (as_reached x) at in
          let same : slice_get a i ≡ Some z =
          sym (slice_append_left a h.more i (omega (arith, less, within)))
          ∙ ap (λ (l : List Reached). slice_get l i) (sym h.behind) ∙ e in
          stays a (all_placed (places m x)) b h y (w.closed i z y less same q)
      | inr more ↦
          let is : i ≡ k = omega (arith, l, more) in
          let within : k < length a = slice_get_within a k (as_reached x) at in
          let same : slice_get b i ≡ Some (as_reached x) =
          ap (slice_get b) is ∙ ap (λ (l : List Reached). slice_get l k) h.behind ∙ slice_append_left a h.more k within ∙ at in
          let z_is : z ≡ as_reached x = same_Some z (as_reached x) (sym e ∙ same) in
          comes a (all_placed (places m x)) b h y
          (stands_there m x y (subst (λ u. has (links m u) y ≡ true) z_is q))
    ];
  }

  -- ---- the end

  pub way_ends : (roots : List Reached) (k : ℕ) (a : List Reached) → slice_get a k ≡ None → IsOnTheWay m roots k a →
      IsReach m roots a
  way_ends roots k a none w x =
      let past : length a ≤ k = past_end a k none in
      let holds : HoldsReach m roots a = record {
        rooted = λ y e t. w.rooted y e (has_there m y t);
        closed = λ y z e l t.
            let at = at_has a y e in
            let within : at.0 < length a = slice_get_within a at.0 y at.1 in
            w.closed at.0 y z (omega (arith, within, past)) at.1 l;
      } in
      both_ways (has a x) (has (reach m roots) x) (w.within x) (reach_is_least m roots a holds x)

-- the root at a place
pub next_root : (m : Machine) (roots : List Node) (k : ℕ) (d : Node) → k < length roots →
    if_there m (get_or roots k d) ≡ member (slice_get (map (if_there m) roots) k)
next_root m [] k d l = absurd (omega (arith, l))
next_root m (root ∷ roots) zero d l = refl
next_root m (root ∷ roots) (suc k) d l = next_root m roots k d (omega (arith, l))
