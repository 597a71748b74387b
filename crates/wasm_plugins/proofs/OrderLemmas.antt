-- The nodes of a store stand in order, and the first of them that passes a test is the head of those that do.
use Rattle.std.proofs.Common.{◌≡◌, ◌⊎◌, ℕ, zero, suc, ◌<◌, ◌≤◌, Bool, true, false, List, [], ◌∷◌, ◌++◌, length, Option, Some, None, refl, sym, ap, ◌∙◌, subst, inl, inr, arith, eq-eqb}
use Rattle.std.specs.Prelude.{filter, if◌then◌else◌, nat_lt, nat_eq}
use Rattle.std.proofs.lemmas.Bool.{false≢true, false_from_ne_true, or_cases, or_left, or_right, or_parts, and_from, and_parts, and_cases, ltb-true, ltb-false, lt-ltb, eqb-true, eqb-false}
use Rattle.spec_machine.specs.Machine.{Machine}
use Rattle.spec_reach.specs.Nodes.{Node, func, instance, memory, table, global, same_node, has, numbered, nodes}
use Rattle.spec_reach.proofs.FilterLemmas.{same_is, same_own, has_front, has_back, has_either}
use Rattle.wasm_plugins.specs.Meetings.{kind_of, number_of, is_before, first_of, or_first, IsFirst, IsFirstOf}

-- ---- the order, by numbers

lower_kind : (x y : Node) → kind_of x < kind_of y → is_before x y ≡ true
lower_kind x y l = or_left (nat_lt (kind_of x) (kind_of y)) _ (lt-ltb (kind_of x) (kind_of y) l)

lower_number : (x y : Node) → kind_of x ≡ kind_of y → number_of x < number_of y → is_before x y ≡ true
lower_number x y e l =
    or_right (nat_lt (kind_of x) (kind_of y)) _
    (and_from (nat_eq (kind_of x) (kind_of y)) (nat_lt (number_of x) (number_of y)) (eq-eqb (kind_of x) (kind_of y) e)
    (lt-ltb (number_of x) (number_of y) l))

abbrev IsLower : Node → Node → Type 0
IsLower x y = (kind_of x < kind_of y) ⊎ ((kind_of x ≡ kind_of y) × (number_of x < number_of y))

before_lower : (x y : Node) → is_before x y ≡ true → IsLower x y
before_lower x y e =
    elim (or_cases (nat_lt (kind_of x) (kind_of y)) _ e) [
      | inl p ↦ inl (ltb-true (kind_of x) (kind_of y) p)
      | inr p ↦
          let q = and_parts (nat_eq (kind_of x) (kind_of y)) (nat_lt (number_of x) (number_of y)) p in
          inr (eqb-true (kind_of x) (kind_of y) q.0, ltb-true (number_of x) (number_of y) q.1)
    ]

-- the other is no higher
abbrev IsNoHigher : Node → Node → Type 0
IsNoHigher y x = (kind_of y < kind_of x) ⊎ ((kind_of y ≡ kind_of x) × (number_of y ≤ number_of x))

else_no_higher : (x y : Node) → is_before x y ≡ false → IsNoHigher y x
else_no_higher x y e =
    let q = or_parts (nat_lt (kind_of x) (kind_of y)) _ e in
    let k : kind_of y ≤ kind_of x = ltb-false (kind_of x) (kind_of y) q.0 in
    elim (and_cases (nat_eq (kind_of x) (kind_of y)) (nat_lt (number_of x) (number_of y)) q.1) [
      | inl p ↦ let d = eqb-false (kind_of x) (kind_of y) p in inl (omega (arith, d, k))
      | inr p ↦ grind (arith, k, ltb-false (number_of x) (number_of y) p)
    ]

never_self : (x : Node) → is_before x x ≡ false
never_self x =
    false_from_ne_true (is_before x x)
    (λ e. elim (before_lower x x e) [ inl p ↦ omega (arith, p) | inr p ↦ omega (arith, p.1) ])

not_back : (x y : Node) → is_before x y ≡ true → is_before y x ≡ false
not_back x y e =
    false_from_ne_true (is_before y x)
    (λ k. elim (before_lower x y e) [
      | inl p ↦ elim (before_lower y x k) [ inl q ↦ omega (arith, p, q) | inr q ↦ omega (arith, p, q.0) ]
      | inr p ↦ elim (before_lower y x k) [ inl q ↦ omega (arith, p.0, q) | inr q ↦ omega (arith, p.1, q.1) ]
    ])

not_through : (x y z : Node) → is_before x y ≡ false → is_before y z ≡ false → is_before x z ≡ false
not_through x y z e k =
    false_from_ne_true (is_before x z)
    (λ l. elim (before_lower x z l) [
      | inl p ↦ elim (else_no_higher x y e) [
        | inl q ↦ elim (else_no_higher y z k) [ inl r ↦ omega (arith, p, q, r) | inr r ↦ omega (arith, p, q, r.0) ]
        | inr q ↦ elim (else_no_higher y z k) [ inl r ↦ omega (arith, p, q.0, r) | inr r ↦ omega (arith, p, q.0, r.0) ]
      ]
      | inr p ↦ elim (else_no_higher x y e) [
        | inl q ↦ elim (else_no_higher y z k) [ inl r ↦ omega (arith, p.0, q, r) | inr r ↦ omega (arith, p.0, q, r.0) ]
        | inr q ↦ elim (else_no_higher y z k) [
          | inl r ↦ omega (arith, p.0, q.0, r)
          | inr r ↦ omega (arith, p.1, q.1, r.1)
        ]
      ]
    ])

-- ---- lists in order

abbrev IsOrdered : List Node → Type 0
IsOrdered [] = Unit {0}
IsOrdered (x ∷ xs) = ((y : Node) → has xs y ≡ true → is_before x y ≡ true) × IsOrdered xs

numbered_is :
    (kind : ℕ → Node) (from k : ℕ) (x : Node) → has (numbered kind from k) x ≡ true
    → (n : ℕ) × (from ≤ n) × (x ≡ kind n)
numbered_is kind from zero x e = absurd (false≢true e)
numbered_is kind from (suc k) x e =
    elim (or_cases (same_node x (kind from)) (has (numbered kind (suc from) k) x) e) [
      | inl q ↦ (from, omega arith, same_is x (kind from) q)
      | inr q ↦ let r = numbered_is kind (suc from) k x q in (r.0, omega (arith, r.1), r.2)
    ]

append_ordered :
    (xs ys : List Node) → IsOrdered xs → IsOrdered ys
    → ((x y : Node) → has xs x ≡ true → has ys y ≡ true → is_before x y ≡ true) → IsOrdered (xs ++ ys)
append_ordered [] ys p q h = q
append_ordered (x ∷ xs) ys p q h = (
  λ y e. elim (has_either xs ys y e) [
    | inl a ↦ p.0 y a
    | inr b ↦ h x y (or_left (same_node x x) (has xs x) (same_own x)) b
  ],
  append_ordered xs ys p.1 q (λ a b s t. h a b (or_right (same_node a x) (has xs a) s) t),
)

-- in order, and of no kind before this one
record IsTail (kind : ℕ) (xs : List Node) : Type 0 where
  above : (y : Node) → has xs y ≡ true → kind ≤ kind_of y
  ordered : IsOrdered xs

module _ (kind : ℕ → Node) (c : ℕ) (of : (n : ℕ) → kind_of (kind n) ≡ c) (by : (n : ℕ) → number_of (kind n) ≡ n) where
  kind_ordered : (from k : ℕ) → IsOrdered (numbered kind from k)
  kind_ordered from zero = tt
  kind_ordered from (suc k) = (
    λ y e.
        let r = numbered_is kind (suc from) k y e in
        subst (λ z. is_before (kind from) z ≡ true) (sym r.2)
        (lower_number (kind from) (kind r.0) (of from ∙ sym (of r.0)) (omega (arith, by from, by r.0, r.1))),
    kind_ordered (suc from) k,
  )

  kind_is : (from k : ℕ) (x : Node) → has (numbered kind from k) x ≡ true → kind_of x ≡ c
  kind_is from k x e = let r = numbered_is kind from k x e in ap kind_of r.2 ∙ of r.0

  kind_last : (k : ℕ) → IsTail c (numbered kind 0 k)
  kind_last k = record { above = λ y e. omega (arith, kind_is 0 k y e); ordered = kind_ordered 0 k }

  kind_more : (k : ℕ) (rest : List Node) → IsTail (suc c) rest → IsTail c (numbered kind 0 k ++ rest)
  kind_more k rest t = record {
    above = λ y e. elim (has_either (numbered kind 0 k) rest y e) [
      | inl p ↦ omega (arith, kind_is 0 k y p)
      | inr p ↦ omega (arith, t.above y p)
    ];
    ordered =
        append_ordered (numbered kind 0 k) rest (kind_ordered 0 k) t.ordered
        (λ x y p q. lower_kind x y (omega (arith, kind_is 0 k x p, t.above y q)));
  }

pub nodes_ordered : (m : Machine) → IsOrdered (nodes m)
nodes_ordered m =
    let d : IsTail 4 _ = kind_last global 4 (λ n. refl) (λ n. refl) (length m.globals) in
    let c : IsTail 3 _ = kind_more table 3 (λ n. refl) (λ n. refl) (length m.tables) _ d in
    let b : IsTail 2 _ = kind_more memory 2 (λ n. refl) (λ n. refl) (length m.memories) _ c in
    let a : IsTail 1 _ = kind_more instance 1 (λ n. refl) (λ n. refl) (length m.instances) _ b in
    let all : IsTail 0 _ = kind_more func 0 (λ n. refl) (λ n. refl) (length m.functions) _ a in
    all.ordered

-- ---- the head of what passes a test

pub none_kept :
    (p : Node → Bool) (xs : List Node) → ((x : Node) → has xs x ≡ true → p x ≡ false) → filter p xs ≡ []
none_kept p [] h = refl
none_kept p (x ∷ xs) h =
    ap (λ (b : Bool). if b then x ∷ filter p xs else filter p xs)
    (h x (or_left (same_node x x) (has xs x) (same_own x)))
    ∙ none_kept p xs (λ y e. h y (or_right (same_node y x) (has xs y) e))

abbrev pub IsHead : Node → List Node → Type 0
IsHead x xs = (more : List Node) × (xs ≡ x ∷ more)

head_by :
    (p : Node → Bool) (y x : Node) (ys : List Node) (b : Bool) → p y ≡ b → IsOrdered (y ∷ ys)
    → (same_node x y ≡ true) ⊎ (has ys x ≡ true) → p x ≡ true
    → (p y ≡ true → is_before y x ≡ false) → (has ys x ≡ true → IsHead x (filter p ys))
    → IsHead x (if b then y ∷ filter p ys else filter p ys)
head_by p y x ys true q o (inl s) t h rest = (filter p ys, ap (λ z. z ∷ filter p ys) (sym (same_is x y s)))
head_by p y x ys true q o (inr s) t h rest = absurd (false≢true (sym (h q) ∙ o.0 x s))
head_by p y x ys false q o (inl s) t h rest =
    absurd (false≢true (sym q ∙ subst (λ z. p z ≡ true) (same_is x y s) t))
head_by p y x ys false q o (inr s) t h rest = rest s

pub head_is :
    (p : Node → Bool) (xs : List Node) (x : Node) → IsOrdered xs → has xs x ≡ true → p x ≡ true
    → ((y : Node) → has xs y ≡ true → p y ≡ true → is_before y x ≡ false) → IsHead x (filter p xs)
head_is p [] x o e t h = absurd (false≢true e)
head_is p (y ∷ ys) x o e t h =
    head_by p y x ys (p y) refl o (or_cases (same_node x y) (has ys x) e) t
    (h y (or_left (same_node y y) (has ys y) (same_own y)))
    (λ s. head_is p ys x o.1 s t (λ z u. h z (or_right (same_node z y) (has ys z) u)))

-- ---- the first of a set, with one node more

is_one : (x y : Node) → has (x ∷ []) y ≡ true → y ≡ x
is_one x y e =
    elim (or_cases (same_node y x) false e) [ inl p ↦ same_is y x p | inr p ↦ absurd (false≢true p) ]

module _ (test : Node → Bool) (seen : List Node) (x : Node) where
  abbrev more : List Node
  more = seen ++ x ∷ []

  at_end : has more x ≡ true
  at_end = has_back seen (x ∷ []) x (or_left (same_node x x) false (same_own x))

  -- what holds of each that was seen and of the one holds of all
  both : (P : Node → Type 0) → ((y : Node) → has seen y ≡ true → P y) → P x → (y : Node) → has more y ≡ true → P y
  both P h p y e =
      elim (has_either seen (x ∷ []) y e) [ inl q ↦ h y q | inr q ↦ subst P (sym (is_one x y q)) p ]

  -- one that does not pass
  passed_by : (first : Option Node) → test x ≡ false → IsFirstOf test seen first → IsFirstOf test more first
  passed_by None e h = both (λ y. test y ≡ false) h e
  passed_by (Some f) e h = record {
    passes = h.passes;
    of = has_front seen (x ∷ []) f h.of;
    first = both (λ y. test y ≡ true → is_before y f ≡ false) h.first (λ t. absurd (false≢true (sym e ∙ t)));
  }

  chosen : (b : Bool) (f : Node) → is_before f x ≡ b → test x ≡ true → IsFirst test seen f →
      IsFirst test more (if b then f else x)
  chosen true f e t h = record {
    passes = h.passes;
    of = has_front seen (x ∷ []) f h.of;
    first = both (λ y. test y ≡ true → is_before y f ≡ false) h.first (λ _. not_back f x e);
  }
  chosen false f e t h = record {
    passes = t;
    of = at_end;
    first = both (λ y. test y ≡ true → is_before y x ≡ false) (λ y q u. not_through y f x (h.first y q u) e)
        (λ _. never_self x);
  }

  passing : (first : Option Node) → test x ≡ true → IsFirstOf test seen first →
      IsFirst test more (first_of first x)
  passing None t h = record {
    passes = t;
    of = at_end;
    first = both (λ y. test y ≡ true → is_before y x ≡ false) (λ y q u. absurd (false≢true (sym (h y q) ∙ u)))
        (λ _. never_self x);
  }
  passing (Some f) t h = chosen (is_before f x) f refl t h

  pub one_more : (b : Bool) (first : Option Node) → test x ≡ b → IsFirstOf test seen first →
      IsFirstOf test more (or_first b first x)
  one_more true first t h = passing first t h
  one_more false first t h = passed_by first t h
