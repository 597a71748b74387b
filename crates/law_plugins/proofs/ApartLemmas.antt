-- Guests that cannot meet stay so, whatever is confined to what one of them reaches, or to what none of them meets.
use Rattle.std.proofs.Common.{◌≡◌, ◌⊎◌, ℕ, true, false, List, [], ◌∷◌, ◌++◌, Some, slice_get, sym, ap, ◌∙◌, subst, inl, inr, arith}
use Rattle.std.specs.Prelude.{not}
use Rattle.std.proofs.lemmas.Bool.{both_ways, cases_eq}
use Rattle.std.proofs.lemmas.Option.{same_Some}
use Rattle.wasm_types.specs.Each.{Each}
use Rattle.spec_machine.specs.Machine.{Machine}
use Rattle.spec_machine.specs.WellFormed.{IsWellFormed}
use Rattle.spec_reach.specs.Nodes.{Node, instance, has, nodes, is_there}
use Rattle.spec_reach.specs.Outside.{SameOutside, new_nodes}
use Rattle.spec_reach.proofs.FilterLemmas.{has_front, has_back, has_filter}
use Rattle.spec_reach.proofs.ReachLemmas.{reach_grows}
use Rattle.law_store.specs.Later.{Extends}
use Rattle.law_store.proofs.Lists.{each_push}
use Rattle.law_code.proofs.SpaceLemmas.{push_cases}
use Rattle.law_confined.specs.Laws.{KeepsReach}
use Rattle.law_confined.proofs.ClosedSets.{there_has}
use Rattle.law_plugins.specs.Meeting.{is_private, reach_of, AreApart, GuestsAreApart, KeepsGuest}
use Rattle.law_plugins.proofs.KeptLemmas.{has_one, reached_there, stays_there, same_private, keeps_guest}

-- in either order
pub other_way : (m : Machine) (a b : List Node) → AreApart m a b → AreApart m b a
other_way m a b h x p q r = h x p r q

module _ (m after : Machine) (set : List Node) (outside : SameOutside set m after) (reaches : KeepsReach m after set)
    (later : Extends m after) (well : IsWellFormed m) where
  -- a guest that is apart from the set
  record IsOther (guest : ℕ) : Type 0 where
    there : is_there m (instance guest) ≡ true
    apart : AreApart m set (reach_of m guest)

  kept : (guest : ℕ) → IsOther guest → KeepsGuest m after guest
  kept guest o = keeps_guest m after set outside later well guest o.there o.apart

  reached_before : (guest : ℕ) → IsOther guest → (x : Node) → has (reach_of after guest) x ≡ true →
      has (reach_of m guest) x ≡ true
  reached_before guest o x e = sym ((kept guest o).reaches x) ∙ e

  private_before : (guest : ℕ) → IsOther guest → (x : Node) → has (reach_of m guest) x ≡ true →
      is_private after x ≡ true → is_private m x ≡ true
  private_before guest o x h p =
      sym (same_private m after set outside later x ((kept guest o).objects x h)) ∙ p

  -- two of them
  others_apart : (g h : ℕ) → IsOther g → IsOther h → AreApart m (reach_of m g) (reach_of m h) →
      AreApart after (reach_of after g) (reach_of after h)
  others_apart g h o p k x q r s =
      let b = reached_before g o x r in k x (private_before g o x b q) b (reached_before h p x s)

  -- one whose instance is of the set, or new
  abbrev IsInside : ℕ → Type 0
  IsInside guest = has (set ++ new_nodes m after) (instance guest) ≡ true

  inside : (guest : ℕ) → IsInside guest → (x : Node) → has (reach_of after guest) x ≡ true →
      (has set x ≡ true) ⊎ (is_there m x ≡ false)
  inside guest i x e =
      reaches x (reach_grows after (instance guest ∷ []) (set ++ new_nodes m after)
      (λ y r. subst (λ z. has (set ++ new_nodes m after) z ≡ true) (sym (has_one y (instance guest) r)) i) x e)

  inside_apart : (g h : ℕ) → IsInside g → IsOther h → AreApart after (reach_of after g) (reach_of after h)
  inside_apart g h i o x q r s =
      let b = reached_before h o x s in
      elim (inside g i x r) [
        | inl k ↦ o.apart x (private_before h o x b q) k b
        | inr k ↦ both_ways (is_there m x) k (reached_there m (instance h ∷ []) x b)
      ]

  module _ (guests : List ℕ) (are : GuestsAreApart m guests) where
    other : (i g : ℕ) → slice_get guests i ≡ Some g → AreApart m set (reach_of m g) → IsOther g
    other i g e a = record { there = are.there i g e; apart = a }

    stay : Each guests (λ g. is_there after (instance g) ≡ true)
    stay i g e = stays_there m after set outside later (instance g) (are.there i g e)

    -- ---- one of them is inside of the set, and no other meets it

    module _ (place guest : ℕ) (found : slice_get guests place ≡ Some guest) (of : has set (instance guest) ≡ true)
        (apart : (i g : ℕ) → (i ≡ place → ⊥) → slice_get guests i ≡ Some g → AreApart m set (reach_of m g)) where
      abbrev is_inside : (g : ℕ) → g ≡ guest → IsInside g
      is_inside g e =
          has_front set (new_nodes m after) (instance g)
          (subst (λ n. has set (instance n) ≡ true) (sym e) of)

      same_guest : (i g : ℕ) → i ≡ place → slice_get guests i ≡ Some g → g ≡ guest
      same_guest i g e p = same_Some g guest (sym p ∙ ap (slice_get guests) e ∙ found)

      pub one_called : GuestsAreApart after guests
      one_called = record {
        there = stay;
        apart = λ i j g h l p q.
            elim (cases_eq i place) [
              | inl e ↦ inside_apart g h (is_inside g (same_guest i g e p))
                  (other j h q (apart j h (λ k. omega (arith, e, k, l)) q))
              | inr n ↦ elim (cases_eq j place) [
                | inl e ↦
                    other_way after (reach_of after h) (reach_of after g)
                    (inside_apart h g (is_inside h (same_guest j h e q)) (other i g p (apart i g n p)))
                | inr k ↦
                    others_apart g h (other i g p (apart i g n p)) (other j h q (apart j h k q))
                    (are.apart i j g h l p q)
              ]
            ];
      }

      pub others_kept : (i g : ℕ) → (i ≡ place → ⊥) → slice_get guests i ≡ Some g → KeepsGuest m after g
      others_kept i g n p = kept g (other i g p (apart i g n p))

    -- ---- no guest meets the set

    module _ (apart : (i g : ℕ) → slice_get guests i ≡ Some g → AreApart m set (reach_of m g)) where
      pub none_loaded : GuestsAreApart after guests
      none_loaded = record {
        there = stay;
        apart = λ i j g h l p q.
            others_apart g h (other i g p (apart i g p)) (other j h q (apart j h q)) (are.apart i j g h l p q);
      }

      pub all_kept : (i g : ℕ) → slice_get guests i ≡ Some g → KeepsGuest m after g
      all_kept i g p = kept g (other i g p (apart i g p))

      -- and one more, whose instance is new
      module _ (guest : ℕ) (new : is_there m (instance guest) ≡ false) (made : is_there after (instance guest) ≡ true)
        where
          guest_inside : (g : ℕ) → guest ≡ g → IsInside g
          guest_inside g e =
              subst IsInside e
              (has_back set (new_nodes m after) (instance guest)
              (has_filter (λ x. not (is_there m x)) (nodes after) (instance guest) (there_has after (instance guest) made)
              (ap not new)))

          pub one_loaded : GuestsAreApart after (guests ++ guest ∷ [])
          one_loaded = record {
            there = each_push (λ (g : ℕ). is_there after (instance g) ≡ true) guests guest stay made;
            apart = λ i j g h l p q.
                elim (push_cases guests guest i g p) [
                  | inl p ↦ elim (push_cases guests guest j h q) [
                    | inl q ↦ none_loaded.apart i j g h l p q
                    | inr q ↦
                        other_way after (reach_of after h) (reach_of after g)
                        (inside_apart h g (guest_inside h q.1) (other i g p (apart i g p)))
                  ]
                  | inr p ↦ elim (push_cases guests guest j h q) [
                    | inl q ↦ inside_apart g h (guest_inside g p.1) (other j h q (apart j h q))
                    | inr q ↦ absurd (omega (arith, l, p.0, q.0))
                  ]
                ];
          }
