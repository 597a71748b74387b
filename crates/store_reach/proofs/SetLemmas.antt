-- Adding to sets, one by one and lists of what is added.
use Rattle.std.proofs.Common.{◌≡◌, ℕ, zero, suc, ◌+◌, Bool, true, false, List, [], ◌∷◌, ◌++◌, length, Option, Some, None, slice_get, refl, sym, ap, ◌∙◌, subst, arith, append-nil}
use Rattle.std.specs.Prelude.{◌||◌, take}
use Rattle.std.proofs.lemmas.List.{append_assoc}
use Rattle.std.proofs.lemmas.Option.{none-some, same_Some}
use Rattle.spec_reach.specs.Nodes.{Node as Reached, same_node, has}
use Rattle.store_objects.specs.Links.{member}
use Rattle.store_objects.specs.declared.node.Node.{Node}
use Rattle.store_objects.specs.declared.node.Node.TheVariants as node
use Rattle.spec_reach.proofs.FilterLemmas.{same_is}
use Rattle.store_reach.specs.Sets.{placed, all_placed, Adds}

-- ---- has, by parts

or_more : (a b c : Bool) → (a || (b || c)) ≡ ((a || b) || c)
or_more true b c = refl
or_more false b c = refl

or_none : (a : Bool) → (a || false) ≡ a
or_none true = refl
or_none false = refl

or_swap : (a b : Bool) → (a || b) ≡ (b || a)
or_swap true true = refl
or_swap true false = refl
or_swap false true = refl
or_swap false false = refl

pub has_append : (xs ys : List Reached) (y : Reached) → has (xs ++ ys) y ≡ (has xs y || has ys y)
has_append [] ys y = refl
has_append (z ∷ xs) ys y =
    ap (λ (b : Bool). same_node y z || b) (has_append xs ys y) ∙ or_more (same_node y z) (has xs y) (has ys y)

-- ---- adding

pub adds_nothing : (a : List Reached) → Adds a [] a
adds_nothing a = record { more = []; behind = sym (append-nil a); added = λ y. sym (or_none (has a y)) }

pub adds_on : (a b c xs ys : List Reached) → Adds a xs b → Adds b ys c → Adds a (xs ++ ys) c
adds_on a b c xs ys p q = record {
  more = p.more ++ q.more;
  behind =
      q.behind ∙ ap (λ (l : List Reached). l ++ q.more) p.behind ∙ append_assoc a p.more q.more;
  added = λ y.
      q.added y ∙ ap (λ (t : Bool). t || has ys y) (p.added y) ∙ sym (or_more (has a y) (has xs y) (has ys y))
      ∙ ap (λ (t : Bool). has a y || t) (sym (has_append xs ys y));
}

-- one that is a member, and one that is none
pub adds_member : (a : List Reached) (x : Reached) → has a x ≡ true → Adds a (x ∷ []) a
adds_member a x e = record {
  more = [];
  behind = sym (append-nil a);
  added = λ y. by y (same_node y x) refl;
} where
  by : (y : Reached) (b : Bool) → same_node y x ≡ b → has a y ≡ (has a y || (same_node y x || false))
  by y true p =
      let own : has a y ≡ true = subst (λ z. has a z ≡ true) (sym (same_is y x p)) e in
      own ∙ sym (ap (λ (t : Bool). t || (same_node y x || false)) own)
  by y false p =
      sym (ap (λ (t : Bool). has a y || (t || false)) p ∙ or_none (has a y))

pub adds_new : (a : List Reached) (x : Reached) → Adds a (x ∷ []) (a ++ x ∷ [])
adds_new a x = record { more = x ∷ []; behind = refl; added = λ y. has_append a (x ∷ []) y }

-- ---- places, one after another

pub take_more : {A : Type 0} (xs : List A) (k : ℕ) (x : A) → slice_get xs k ≡ Some x →
    take (k + 1) xs ≡ take k xs ++ x ∷ []
take_more [] k x e = absurd (none-some x e)
take_more (y ∷ xs) zero x e = ap (λ z. z ∷ []) (same_Some y x e)
take_more (y ∷ xs) (suc k) x e =
    let p : suc k + 1 ≡ suc (k + 1) = omega arith in
    ap (λ n. take n (y ∷ xs)) p ∙ ap (λ (l : List _). y ∷ l) (take_more xs k x e)

take_empty : {A : Type 0} (k : ℕ) → ◌≡◌ {A = List A} (take k []) []
take_empty zero = refl
take_empty (suc k) = refl

pub take_none : {A : Type 0} (xs : List A) (k : ℕ) → slice_get xs k ≡ None → take (k + 1) xs ≡ take k xs
take_none {A} [] k e = take_empty {A = A} (k + 1) ∙ sym (take_empty {A = A} k)
take_none (y ∷ xs) zero e = absurd (none-some y (sym e))
take_none (y ∷ xs) (suc k) e =
    let p : suc k + 1 ≡ suc (k + 1) = omega arith in
    ap (λ n. take n (y ∷ xs)) p ∙ ap (λ (l : List _). y ∷ l) (take_none xs k e)

pub take_front : {A : Type 0} (xs ys : List A) → take (length xs) (xs ++ ys) ≡ xs
take_front [] ys = refl
take_front (x ∷ xs) ys = ap (λ (l : List _). x ∷ l) (take_front xs ys)

pub all_append : (xs ys : List (Option Node)) → all_placed (xs ++ ys) ≡ all_placed xs ++ all_placed ys
all_append [] ys = refl
all_append (o ∷ xs) ys =
    ap (λ (l : List Reached). placed o ++ l) (all_append xs ys)
    ∙ sym (append_assoc (placed o) (all_placed xs) (all_placed ys))

module _ (a b c : List Reached) (places : List (Option Node)) (k : ℕ) (before : Adds a (all_placed (take k places)) b) where
  place_is : (o : Option Node) → slice_get places k ≡ Some o →
      all_placed (take k places) ++ (placed o ++ []) ≡ all_placed (take (k + 1) places)
  place_is o e =
      sym (ap all_placed (take_more places k o e) ∙ all_append (take k places) (o ∷ []))

  -- with what stands at the next place, if there is one
  pub next_place : Adds b (placed (member (slice_get places k))) c → Adds a (all_placed (take (k + 1) places)) c
  next_place h = by (slice_get places k) refl h where
    by : (o : Option (Option Node)) → slice_get places k ≡ o → Adds b (placed (member o)) c →
        Adds a (all_placed (take (k + 1) places)) c
    by None e h =
        subst (λ (l : List Reached). Adds a l c)
        (append-nil (all_placed (take k places)) ∙ ap all_placed (sym (take_none places k e)))
        (adds_on a b c (all_placed (take k places)) [] before h)
    by (Some o) e h =
        subst (λ (l : List Reached). Adds a l c) (ap (λ (l : List Reached). all_placed (take k places) ++ l)
        (sym (append-nil (placed o))) ∙ place_is o e)
        (adds_on a b c (all_placed (take k places)) (placed o) before h)
