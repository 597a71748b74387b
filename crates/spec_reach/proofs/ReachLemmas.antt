-- Reach is the least set that holds its roots and all that its members lead to.
use Rattle.std.proofs.Common.{◌≡◌, ◌⊎◌, ℕ, zero, suc, ◌≤◌, ◌<◌, Bool, true, List, length, refl, sym, ap, subst, inl, inr, arith}
use Rattle.std.specs.Prelude.{filter, flat_map}
use Rattle.std.proofs.lemmas.Bool.{or_cases, or_left, or_right}
use Rattle.spec_machine.specs.Machine.{Machine}
use Rattle.spec_reach.specs.Nodes.{Node, has, nodes}
use Rattle.spec_reach.specs.Reach.{links, is_near, grow_reach, grown_reach, reach}
use Rattle.spec_reach.specs.ReachLaws.{ReachIsClosed, ReachIsLeast, ReachGrows}
use Rattle.spec_reach.proofs.FilterLemmas.{same_or_more, no_more, has_at, has_filter, Kept, filter_has, has_flat, LedTo, flat_has}

module _ (m : Machine) where
  -- a part of the store's nodes that is grown is the same part, or a larger one
  grows : (p : Node → Bool) → let set = filter p (nodes m) in
      (set ≡ grow_reach m set) ⊎ (length set < length (grow_reach m set))
  grows p =
      same_or_more p (is_near m (filter p (nodes m))) (nodes m)
      (λ n x e h.
      or_left (has (filter p (nodes m)) x) (has (flat_map (links m) (filter p (nodes m))) x)
      (has_filter p (nodes m) x (has_at (nodes m) n x e) h))

  module _ (roots : List Node) where
    abbrev grown : ℕ → List Node
    grown n = grown_reach m (filter (has roots) (nodes m)) n

    grows_at : (n : ℕ) → (grown n ≡ grown (suc n)) ⊎ (length (grown n) < length (grown (suc n)))
    grows_at zero = grows (has roots)
    grows_at (suc n) = grows (is_near m (grown n))

    small : (n : ℕ) → length (grown n) ≤ length (nodes m)
    small zero = no_more (has roots) (nodes m)
    small (suc n) = no_more (is_near m (grown n)) (nodes m)

    -- it is closed, or has so many members
    rises : (n : ℕ) → (grown n ≡ grown (suc n)) ⊎ (n ≤ length (grown n))
    rises zero = inr (omega arith)
    rises (suc n) =
        elim (rises n) [
          | inl e ↦ inl (ap (grow_reach m) e)
          | inr l ↦ elim (grows_at n) [
            | inl e ↦ inl (ap (grow_reach m) e)
            | inr k ↦ inr (omega (arith, l, k))
          ]
        ]

    closed_at : (n : ℕ) → n ≡ length (nodes m) → grown n ≡ grown (suc n)
    closed_at n e =
        elim (rises n) [
          | inl q ↦ q
          | inr l ↦ elim (grows_at n) [
            | inl q ↦ q
            | inr k ↦ absurd (omega (arith, e, l, k, small (suc n)))
          ]
        ]

    pub reach_is : reach m roots ≡ grow_reach m (reach m roots)
    reach_is = closed_at (length (nodes m)) refl

    -- it holds the roots
    held_at : (n : ℕ) (x : Node) → has (nodes m) x ≡ true → has roots x ≡ true → has (grown n) x ≡ true
    held_at zero x there h = has_filter (has roots) (nodes m) x there h
    held_at (suc n) x there h =
        has_filter (is_near m (grown n)) (nodes m) x there
        (or_left (has (grown n) x) (has (flat_map (links m) (grown n)) x) (held_at n x there h))

    pub reach_roots : (x : Node) → has roots x ≡ true → has (nodes m) x ≡ true → has (reach m roots) x ≡ true
    reach_roots x h there = held_at (length (nodes m)) x there h

    -- and all that its members lead to
    pub reach_links :
        (x y : Node) → has (reach m roots) x ≡ true → has (links m x) y ≡ true → has (nodes m) y ≡ true
        → has (reach m roots) y ≡ true
    reach_links x y h l there =
        subst (λ set. has set y ≡ true) (sym reach_is)
        (has_filter (is_near m (reach m roots)) (nodes m) y there
        (or_right (has (reach m roots) y) (has (flat_map (links m) (reach m roots)) y)
        (has_flat (links m) (reach m roots) x y h l)))

    -- each set that does so holds it
    module _ (Member : Node → Type 0)
        (root : (x : Node) → has roots x ≡ true → has (nodes m) x ≡ true → Member x)
        (closed : (x y : Node) → Member x → has (links m x) y ≡ true → has (nodes m) y ≡ true → Member y) where
      least_at : (n : ℕ) (x : Node) → has (grown n) x ≡ true → Member x
      least_at zero x h =
          let k : Kept (has roots) (nodes m) x = filter_has (has roots) (nodes m) x h in root x k.passes k.of
      least_at (suc n) x h =
          let k : Kept (is_near m (grown n)) (nodes m) x = filter_has (is_near m (grown n)) (nodes m) x h in
          elim (or_cases (has (grown n) x) (has (flat_map (links m) (grown n)) x) k.passes) [
            | inl q ↦ least_at n x q
            | inr q ↦
                let l : LedTo (links m) (grown n) x = flat_has (links m) (grown n) x q in
                closed l.from x (least_at n l.from l.of) l.leads k.of
          ]

      pub reach_least : (x : Node) → has (reach m roots) x ≡ true → Member x
      reach_least x h = least_at (length (nodes m)) x h

pub reach_is_closed : ReachIsClosed
reach_is_closed m roots = record { rooted = reach_roots m roots; closed = reach_links m roots }

pub reach_is_least : ReachIsLeast
reach_is_least m roots set h x e = reach_least m roots (λ y. has set y ≡ true) h.rooted h.closed x e

pub reach_grows : ReachGrows
reach_grows m roots more h x e =
    reach_least m roots (λ y. has (reach m more) y ≡ true) (λ y r there. reach_roots m more y (h y r) there)
    (reach_links m more) x e
