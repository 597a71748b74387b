-- What a filter of a list keeps; two filters of one list; and members of lists of nodes.
use Rattle.std.proofs.Common.{◌≡◌, ◌⊎◌, ℕ, zero, suc, ◌≤◌, ◌<◌, Bool, true, false, List, [], ◌∷◌, ◌++◌, length, slice_get, Some, refl, sym, ap, subst, inl, inr, arith}
use Rattle.std.specs.Prelude.{filter, flat_map, if◌then◌else◌}
use Rattle.std.proofs.lemmas.Bool.{false≢true, eqb-true, eq-eqb, or_cases, or_left, or_right}
use Rattle.std.proofs.lemmas.Option.{same_Some, none-some}
use Rattle.spec_reach.specs.Nodes.{Node, func, instance, memory, table, global, same_node, has}

-- ---- filters

module _ {A : Type 0} where
  -- the second passes what the first does
  abbrev pub Passes : List A → (A → Bool) → (A → Bool) → Type 0
  Passes xs p q = (n : ℕ) (x : A) → slice_get xs n ≡ Some x → p x ≡ true → q x ≡ true

  one_more :
      (b c : Bool) (x : A) (ps qs : List A) → (b ≡ true → c ≡ true) → (ps ≡ qs) ⊎ (length ps < length qs)
      → ((if b then x ∷ ps else ps) ≡ (if c then x ∷ qs else qs))
      ⊎ (length (if b then x ∷ ps else ps) < length (if c then x ∷ qs else qs))
  one_more true true x ps qs h (inl e) = inl (ap (λ ys. x ∷ ys) e)
  one_more true true x ps qs h (inr l) = inr (omega (arith, l))
  one_more true false x ps qs h k = absurd (false≢true (h refl))
  one_more false true x ps qs h (inl e) = inr (omega (arith, ap length e))
  one_more false true x ps qs h (inr l) = inr (omega (arith, l))
  one_more false false x ps qs h k = k

  -- then it keeps the same, or more
  pub same_or_more :
      (p q : A → Bool) (xs : List A) → Passes xs p q
      → (filter p xs ≡ filter q xs) ⊎ (length (filter p xs) < length (filter q xs))
  same_or_more p q [] h = inl refl
  same_or_more p q (x ∷ xs) h =
      one_more (p x) (q x) x (filter p xs) (filter q xs) (h 0 x refl)
      (same_or_more p q xs (λ n y e. h (suc n) y e))

  one_less : (b : Bool) (x : A) (ys : List A) (n : ℕ) → length ys ≤ n → length (if b then x ∷ ys else ys) ≤ suc n
  one_less true x ys n h = omega (arith, h)
  one_less false x ys n h = omega (arith, h)

  pub no_more : (p : A → Bool) (xs : List A) → length (filter p xs) ≤ length xs
  no_more p [] = omega arith
  no_more p (x ∷ xs) = one_less (p x) x (filter p xs) (length xs) (no_more p xs)

-- ---- members

pub same_own : (x : Node) → same_node x x ≡ true
same_own (func n) = eq-eqb n n refl
same_own (instance n) = eq-eqb n n refl
same_own (memory n) = eq-eqb n n refl
same_own (table n) = eq-eqb n n refl
same_own (global n) = eq-eqb n n refl

pub same_is : (x y : Node) → same_node x y ≡ true → x ≡ y
same_is (func a) (func b) e = ap func (eqb-true a b e)
same_is (instance a) (instance b) e = ap instance (eqb-true a b e)
same_is (memory a) (memory b) e = ap memory (eqb-true a b e)
same_is (table a) (table b) e = ap table (eqb-true a b e)
same_is (global a) (global b) e = ap global (eqb-true a b e)
same_is _ _ e = absurd (false≢true e)

pub has_at : (xs : List Node) (n : ℕ) (x : Node) → slice_get xs n ≡ Some x → has xs x ≡ true
has_at [] n x e = absurd (none-some x e)
has_at (y ∷ ys) zero x e =
    or_left (same_node x y) (has ys x) (subst (λ z. same_node x z ≡ true) (sym (same_Some y x e)) (same_own x))
has_at (y ∷ ys) (suc n) x e = or_right (same_node x y) (has ys x) (has_at ys n x e)

pub at_has : (xs : List Node) (x : Node) → has xs x ≡ true → (n : ℕ) × (slice_get xs n ≡ Some x)
at_has [] x e = absurd (false≢true e)
at_has (y ∷ ys) x e =
    elim (or_cases (same_node x y) (has ys x) e) [
      | inl p ↦ (0, ap Some (sym (same_is x y p)))
      | inr p ↦ (suc (at_has ys x p).0, (at_has ys x p).1)
    ]

-- of two lists
pub has_front : (xs ys : List Node) (x : Node) → has xs x ≡ true → has (xs ++ ys) x ≡ true
has_front [] ys x e = absurd (false≢true e)
has_front (z ∷ xs) ys x e =
    elim (or_cases (same_node x z) (has xs x) e) [
      | inl p ↦ or_left (same_node x z) (has (xs ++ ys) x) p
      | inr p ↦ or_right (same_node x z) (has (xs ++ ys) x) (has_front xs ys x p)
    ]

pub has_back : (xs ys : List Node) (x : Node) → has ys x ≡ true → has (xs ++ ys) x ≡ true
has_back [] ys x e = e
has_back (z ∷ xs) ys x e = or_right (same_node x z) (has (xs ++ ys) x) (has_back xs ys x e)

pub has_either :
    (xs ys : List Node) (x : Node) → has (xs ++ ys) x ≡ true → (has xs x ≡ true) ⊎ (has ys x ≡ true)
has_either [] ys x e = inr e
has_either (z ∷ xs) ys x e =
    elim (or_cases (same_node x z) (has (xs ++ ys) x) e) [
      | inl p ↦ inl (or_left (same_node x z) (has xs x) p)
      | inr p ↦ elim (has_either xs ys x p) [
        | inl q ↦ inl (or_right (same_node x z) (has xs x) q)
        | inr q ↦ inr q
      ]
    ]

-- of a filter
kept_if :
    (b : Bool) (y x : Node) (ys : List Node) → b ≡ true → same_node x y ≡ true
    → has (if b then y ∷ ys else ys) x ≡ true
kept_if true y x ys p e = or_left (same_node x y) (has ys x) e
kept_if false y x ys p e = absurd (false≢true p)

kept_on : (b : Bool) (y x : Node) (ys : List Node) → has ys x ≡ true → has (if b then y ∷ ys else ys) x ≡ true
kept_on true y x ys e = or_right (same_node x y) (has ys x) e
kept_on false y x ys e = e

pub has_filter :
    (p : Node → Bool) (xs : List Node) (x : Node) → has xs x ≡ true → p x ≡ true → has (filter p xs) x ≡ true
has_filter p [] x e h = e
has_filter p (y ∷ ys) x e h =
    elim (or_cases (same_node x y) (has ys x) e) [
      | inl q ↦ kept_if (p y) y x (filter p ys) (subst (λ z. p z ≡ true) (same_is x y q) h) q
      | inr q ↦ kept_on (p y) y x (filter p ys) (has_filter p ys x q h)
    ]

-- what a filter keeps passes, and is of the list
pub record Kept (p : Node → Bool) (xs : List Node) (x : Node) : Type 0 where
  pub passes : p x ≡ true
  pub of : has xs x ≡ true

kept_more : (p : Node → Bool) (y x : Node) (ys : List Node) → Kept p ys x → Kept p (y ∷ ys) x
kept_more p y x ys k = record { passes = k.passes; of = or_right (same_node x y) (has ys x) k.of }

kept_by :
    (b : Bool) (p : Node → Bool) (y x : Node) (ys zs : List Node) → p y ≡ b → (has zs x ≡ true → Kept p ys x)
    → has (if b then y ∷ zs else zs) x ≡ true → Kept p (y ∷ ys) x
kept_by true p y x ys zs e k h =
    elim (or_cases (same_node x y) (has zs x) h) [
      | inl q ↦ record {
        passes = subst (λ z. p z ≡ true) (sym (same_is x y q)) e;
        of = or_left (same_node x y) (has ys x) q;
      }
      | inr q ↦ kept_more p y x ys (k q)
    ]
kept_by false p y x ys zs e k h = kept_more p y x ys (k h)

pub filter_has : (p : Node → Bool) (xs : List Node) (x : Node) → has (filter p xs) x ≡ true → Kept p xs x
filter_has p [] x e = absurd (false≢true e)
filter_has p (y ∷ ys) x e = kept_by (p y) p y x ys (filter p ys) refl (filter_has p ys x) e

-- of lists that members lead to
pub has_flat :
    (f : Node → List Node) (xs : List Node) (x y : Node) → has xs x ≡ true → has (f x) y ≡ true
    → has (flat_map f xs) y ≡ true
has_flat f [] x y e h = absurd (false≢true e)
has_flat f (z ∷ xs) x y e h =
    elim (or_cases (same_node x z) (has xs x) e) [
      | inl q ↦ has_front (f z) (flat_map f xs) y (subst (λ u. has (f u) y ≡ true) (same_is x z q) h)
      | inr q ↦ has_back (f z) (flat_map f xs) y (has_flat f xs x y q h)
    ]

pub record LedTo (f : Node → List Node) (xs : List Node) (y : Node) : Type 0 where
  pub from : Node
  pub of : has xs from ≡ true
  pub leads : has (f from) y ≡ true

led_more : (f : Node → List Node) (z : Node) (xs : List Node) (y : Node) → LedTo f xs y → LedTo f (z ∷ xs) y
led_more f z xs y l =
    record { from = l.from; of = or_right (same_node l.from z) (has xs l.from) l.of; leads = l.leads }

pub flat_has :
    (f : Node → List Node) (xs : List Node) (y : Node) → has (flat_map f xs) y ≡ true → LedTo f xs y
flat_has f [] y e = absurd (false≢true e)
flat_has f (z ∷ xs) y e =
    elim (has_either (f z) (flat_map f xs) y e) [
      | inl q ↦ record { from = z; of = or_left (same_node z z) (has xs z) (same_own z); leads = q }
      | inr q ↦ led_more f z xs y (flat_has f xs y q)
    ]
