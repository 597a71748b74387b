-- Lists of numbers beside what is declared: each number is of an object that matches. And lists of imports beside the
-- objects that are given for them.
use Rattle.std.proofs.Common.{◌≡◌, ◌⊎◌, ℕ, zero, suc, ◌+◌, ◌<◌, List, [], ◌∷◌, ◌++◌, length, map, slice_get, Option, Some, None, option_map, option_and_then, refl, sym, ap, ◌∙◌, subst, inl, inr, arith}
use Rattle.std.specs.List.{cons_option, filter_map, list_all}
use Rattle.std.specs.Prelude.{Bool, true}
use Rattle.std.proofs.lemmas.Option.{same_Some, none-some}
use Rattle.wasm_types.specs.EqualityLaws.{both}
use Rattle.spec_machine.specs.WellFormed.{Has}
use Rattle.spec_execution.specs.Allocation.{from}

module _ {A : Type 0} (F : A → ℕ → Type 0) where
  pub has_none : Has [] [] F
  has_none = record { as_many = refl; each = λ k a n p q. absurd (none-some a p) }

  has_first : (x : A) (n : ℕ) (xs : List A) (ns : List ℕ) → F x n → Has xs ns F →
      (k : ℕ) (a : A) (j : ℕ) → slice_get (x ∷ xs) k ≡ Some a → slice_get (n ∷ ns) k ≡ Some j → F a j
  has_first x n xs ns f h zero a j p q = subst (F a) (same_Some n j q) (subst (λ y. F y n) (same_Some x a p) f)
  has_first x n xs ns f h (suc k) a j p q = h.each k a j p q

  pub has_more : (x : A) (n : ℕ) (xs : List A) (ns : List ℕ) → F x n → Has xs ns F → Has (x ∷ xs) (n ∷ ns) F
  has_more x n xs ns f h = record { as_many = ap suc h.as_many; each = has_first x n xs ns f h }

  pub has_rest : (x : A) (n : ℕ) (xs : List A) (ns : List ℕ) → Has (x ∷ xs) (n ∷ ns) F → Has xs ns F
  has_rest x n xs ns h =
      record { as_many = omega (arith, h.as_many); each = λ k a j p q. h.each (suc k) a j p q }

  pub has_append : (xs ys : List A) (ns ks : List ℕ) → Has xs ns F → Has ys ks F → Has (xs ++ ys) (ns ++ ks) F
  has_append [] ys [] ks h g = g
  has_append (x ∷ xs) ys (n ∷ ns) ks h g =
      has_more x n (xs ++ ys) (ns ++ ks) (h.each 0 x n refl refl)
      (has_append xs ys ns ks (has_rest x n xs ns h) g)
  has_append [] ys (n ∷ ns) ks h g = absurd (omega (arith, h.as_many))
  has_append (x ∷ xs) ys [] ks h g = absurd (omega (arith, h.as_many))

  -- so many numbers in a row
  pub has_from : (xs : List A) (base : ℕ) →
      ((k n : ℕ) (a : A) → n ≡ base + k → slice_get xs k ≡ Some a → F a n) → Has xs (from base (length xs)) F
  has_from [] base h = has_none
  has_from (x ∷ xs) base h =
      has_more x base xs (from (suc base) (length xs)) (h 0 base x (omega arith) refl)
      (has_from xs (suc base) (λ k n a e p. h (suc k) n a (omega (arith, e)) p))

pub has_map : {A B : Type 0} (f : A → B) (F : B → ℕ → Type 0) (xs : List A) (ns : List ℕ) →
    Has xs ns (λ a n. F (f a) n) → Has (map f xs) ns F
has_map f F [] [] h = has_none F
has_map f F (x ∷ xs) (n ∷ ns) h =
    has_more F (f x) n (map f xs) ns (h.each 0 x n refl refl)
    (has_map f F xs ns (has_rest (λ a n. F (f a) n) x n xs ns h))
has_map f F [] (n ∷ ns) h = absurd (omega (arith, h.as_many))
has_map f F (x ∷ xs) [] h = absurd (omega (arith, h.as_many))

-- by another property
pub has_by : {A : Type 0} (F G : A → ℕ → Type 0) (xs : List A) (ns : List ℕ) → ((a : A) (n : ℕ) → F a n → G a n) →
    Has xs ns F → Has xs ns G
has_by F G xs ns f h = record { as_many = h.as_many; each = λ k a n p q. f a n (h.each k a n p q) }

-- ---- numbers in a row

pub from_at : (base count k : ℕ) → k < count → slice_get (from base count) k ≡ Some (base + k)
from_at base zero k h = absurd (omega (arith, h))
from_at base (suc count) zero h = let same : base ≡ base + 0 = omega arith in ap Some same
from_at base (suc count) (suc k) h =
    let same : suc base + k ≡ base + suc k = omega arith in from_at (suc base) count k (omega (arith, h)) ∙ ap Some same

-- each number of them
pub from_is : (base count k n : ℕ) → slice_get (from base count) k ≡ Some n → (n ≡ base + k) × (k < count)
from_is base zero k n p = absurd (none-some n p)
from_is base (suc count) zero n p = (omega (arith, same_Some base n p), omega arith)
from_is base (suc count) (suc k) n p =
    let q : (n ≡ suc base + k) × (k < count) = from_is (suc base) count k n p in
    (omega (arith, q.0), omega (arith, q.1))

-- ---- imports

-- both are of a kind, and belong together; or neither is
abbrev pub Agree : {A B : Type 0} → Option A → Option B → (A → B → Type 0) → Type 0
Agree (Some a) (Some b) F = F a b
Agree None None F = Unit {0}
Agree (Some a) None F = ⊥
Agree None (Some b) F = ⊥

pub agree_by : {A B : Type 0} (o : Option A) (p : Option B) (F G : A → B → Type 0) →
    ((a : A) (b : B) → F a b → G a b) → Agree o p F → Agree o p G
agree_by (Some a) (Some b) F G f h = f a b h
agree_by None None F G f h = tt
agree_by (Some a) None F G f h = h
agree_by None (Some b) F G f h = h

-- a list of what a function gives, by its first member
pub cons_some : {X Y : Type 0} (f : X → Option Y) (xs : List X) (x : X) (y : Y) → f x ≡ Some y →
    filter_map f (x ∷ xs) ≡ y ∷ filter_map f xs
cons_some {X} {Y} f xs x y e = ap (λ (o : Option Y). cons_option o (filter_map f xs)) e

cons_none : {X Y : Type 0} (f : X → Option Y) (xs : List X) (x : X) → f x ≡ None →
    filter_map f (x ∷ xs) ≡ filter_map f xs
cons_none {X} {Y} f xs x e = ap (λ (o : Option Y). cons_option o (filter_map f xs)) e

module _ {D E A B : Type 0} (kind : D → Option A) (as_kind : E → Option B) (index : B → ℕ) (F : A → ℕ → Type 0) where
  abbrev pub numbers : List E → List ℕ
  numbers es = filter_map (λ e. option_map index (as_kind e)) es

  has_cons : (o : Option A) (p : Option B) (ds : List D) (es : List E) (d : D) (e : E) → kind d ≡ o → as_kind e ≡ p →
      Agree o p (λ a b. F a (index b)) → Has (filter_map kind ds) (numbers es) F →
      Has (filter_map kind (d ∷ ds)) (numbers (e ∷ es)) F
  has_cons (Some a) (Some b) ds es d e p q h g =
      subst (λ xs. Has xs (numbers (e ∷ es)) F) (sym (cons_some kind ds d a p))
      (subst (λ ns. Has (a ∷ filter_map kind ds) ns F)
      (sym (cons_some (λ x. option_map index (as_kind x)) es e (index b) (ap (option_map index) q)))
      (has_more F a (index b) (filter_map kind ds) (numbers es) h g))
  has_cons None None ds es d e p q h g =
      subst (λ xs. Has xs (numbers (e ∷ es)) F) (sym (cons_none kind ds d p))
      (subst (λ ns. Has (filter_map kind ds) ns F)
      (sym (cons_none (λ x. option_map index (as_kind x)) es e (ap (option_map index) q))) g)
  has_cons (Some a) None ds es d e p q h g = absurd h
  has_cons None (Some b) ds es d e p q h g = absurd h

  -- of each kind the numbers of what is imported are as the imports of the kind
  pub has_imported : (ds : List D) (es : List E) → length es ≡ length ds →
      ((k : ℕ) (d : D) (e : E) → slice_get ds k ≡ Some d → slice_get es k ≡ Some e →
      Agree (kind d) (as_kind e) (λ a b. F a (index b))) →
      Has (filter_map kind ds) (numbers es) F
  has_imported [] [] same h = has_none F
  has_imported (d ∷ ds) (e ∷ es) same h =
      has_cons (kind d) (as_kind e) ds es d e refl refl (h 0 d e refl refl)
      (has_imported ds es (omega (arith, same)) (λ k x y p q. h (suc k) x y p q))
  has_imported [] (e ∷ es) same h = absurd (omega (arith, same))
  has_imported (d ∷ ds) [] same h = absurd (omega (arith, same))

-- ---- members of lists

-- a member that was pushed, and each member of a list with one more
pub at_end : {A : Type 0} (xs : List A) (y : A) → slice_get (xs ++ y ∷ []) (length xs) ≡ Some y
at_end [] y = refl
at_end (x ∷ xs) y = at_end xs y

pub push_cases : {A : Type 0} (xs : List A) (y : A) (n : ℕ) (x : A) → slice_get (xs ++ y ∷ []) n ≡ Some x →
    (slice_get xs n ≡ Some x) ⊎ ((n ≡ length xs) × (y ≡ x))
push_cases [] y zero x e = inr (refl, same_Some y x e)
push_cases [] y (suc n) x e = absurd (none-some x e)
push_cases (z ∷ xs) y zero x e = inl e
push_cases (z ∷ xs) y (suc n) x e =
    elim (push_cases xs y n x e) [ inl h ↦ inl h | inr h ↦ inr (ap suc h.0, h.1) ]

-- a member behind those of the first list
pub behind_at : {A : Type 0} (xs ys : List A) (n k : ℕ) → n ≡ length xs + k →
    slice_get (xs ++ ys) n ≡ slice_get ys k
behind_at [] ys n k e = let same : n ≡ k = omega (arith, e) in ap (slice_get ys) same
behind_at (x ∷ xs) ys zero k e = absurd (omega (arith, e))
behind_at (x ∷ xs) ys (suc n) k e = behind_at xs ys n k (omega (arith, e))

-- each member passes a test that all pass
pub all_at : {A : Type 0} (f : A → Bool) (xs : List A) (n : ℕ) (x : A) → list_all f xs ≡ true →
    slice_get xs n ≡ Some x → f x ≡ true
all_at f [] n x p e = absurd (none-some x e)
all_at f (y ∷ xs) zero x p e = ap f (sym (same_Some y x e)) ∙ (both _ _ p).0
all_at f (y ∷ xs) (suc n) x p e = all_at f xs n x (both _ _ p).1 e

-- where a function gives something of each member, its list has them in their places
given_by : {A B : Type 0} (f : A → Option B) (xs : List A) (x : A) (y : B) (k : ℕ) → f x ≡ Some y →
    ((j : ℕ) → slice_get (filter_map f xs) j ≡ option_and_then f (slice_get xs j)) →
    slice_get (filter_map f (x ∷ xs)) k ≡ option_and_then f (slice_get (x ∷ xs) k)
given_by f xs x y zero e g = ap (λ ys. slice_get ys zero) (cons_some f xs x y e) ∙ sym e
given_by f xs x y (suc k) e g = ap (λ ys. slice_get ys (suc k)) (cons_some f xs x y e) ∙ g k

pub given_at : {A B : Type 0} (f : A → Option B) (xs : List A) →
    ((n : ℕ) (x : A) → slice_get xs n ≡ Some x → (y : B) × (f x ≡ Some y)) → (k : ℕ) →
    slice_get (filter_map f xs) k ≡ option_and_then f (slice_get xs k)
given_at f [] h k = refl
given_at f (x ∷ xs) h k =
    given_by f xs x (h 0 x refl).0 k (h 0 x refl).1 (given_at f xs (λ n z e. h (suc n) z e))
