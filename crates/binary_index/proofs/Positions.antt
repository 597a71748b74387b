-- The first place of a list at which a test passes, as the list grows.
use Rattle.std.proofs.Common.{◌≡◌, ℕ, zero, suc, ◌+◌, Bool, true, false, cond, List, [], ◌∷◌, ◌++◌, length, Option, Some, None, ◌⊎◌, inl, inr, refl, sym, ◌∙◌, ap, arith}
use Rattle.std.specs.Prelude.{position, slice_get}
use Rattle.std.specs.List.{position_from}
use Rattle.std.proofs.lemmas.Iterator.Adapters.{position_from-zero}

position_counted : {A : Type 0} (p : A → Bool) (xs : List A) → position p xs ≡ position_from p 0 xs
position_counted p xs = position_from-zero p xs

-- where it passes, it passes there in a longer list
either : {A : Type 0} (b : Bool) (x y : A) (u v : Option A) → (u ≡ Some y → v ≡ Some y) → cond b (Some x) u ≡ Some y → cond b (Some x) v ≡ Some y
either true x y u v h e = e
either false x y u v h e = h e

from_more : {A : Type 0} (p : A → Bool) (i n : ℕ) (xs ys : List A) → position_from p i xs ≡ Some n → position_from p i (xs ++ ys) ≡ Some n
from_more p i n [] ys e = absurd (cc e)
from_more p i n (x ∷ xs) ys e = either (p x) i n _ _ (from_more p (i + 1) n xs ys) e

pub first_more : {A : Type 0} (p : A → Bool) (n : ℕ) (xs ys : List A) → position p xs ≡ Some n → position p (xs ++ ys) ≡ Some n
first_more p n xs ys e =
    position_counted p (xs ++ ys) ∙ from_more p 0 n xs ys (sym (position_counted p xs) ∙ e)

-- where it passes nowhere, it may pass at one more
neither : {A : Type 0} (b : Bool) (x : A) (u v w : Option A) → (u ≡ None → v ≡ w) → cond b (Some x) u ≡ None → cond b (Some x) v ≡ w
neither true x u v w h e = absurd (cc e)
neither false x u v w h e = h e

from_pushed : {A : Type 0} (p : A → Bool) (i : ℕ) (xs : List A) (y : A) → position_from p i xs ≡ None → position_from p i (xs ++ y ∷ []) ≡ cond (p y) (Some (i + length xs)) None
from_pushed p i [] y e = let n : i ≡ i + 0 = omega arith in ap (λ (k : ℕ). cond (p y) (Some k) None) n
from_pushed p i (x ∷ xs) y e =
    let n : (i + 1) + length xs ≡ i + length (x ∷ xs) = omega arith in
    neither (p x) i _ _ _ (λ h. from_pushed p (i + 1) xs y h ∙ ap (λ (k : ℕ). cond (p y) (Some k) None) n) e

pub first_pushed : {A : Type 0} (p : A → Bool) (xs : List A) (y : A) → position p xs ≡ None → position p (xs ++ y ∷ []) ≡ cond (p y) (Some (length xs)) None
first_pushed p xs y e =
    let n : 0 + length xs ≡ length xs = omega arith in
    position_counted p (xs ++ y ∷ []) ∙ from_pushed p 0 xs y (sym (position_counted p xs) ∙ e)
    ∙ ap (λ (k : ℕ). cond (p y) (Some k) None) n

-- tests that agree on the members pass at one place
from_agreed : {A : Type 0} (p q : A → Bool) (i : ℕ) (xs : List A) → ((k : ℕ) (x : A) → slice_get xs k ≡ Some x → p x ≡ q x) → position_from p i xs ≡ position_from q i xs
from_agreed p q i [] h = refl
from_agreed p q i (x ∷ xs) h =
    ap (λ (b : Bool). cond b (Some i) (position_from p (i + 1) xs)) (h 0 x refl)
    ∙ ap (λ (o : Option ℕ). cond (q x) (Some i) o) (from_agreed p q (i + 1) xs (λ k y e. h (suc k) y e))

pub first_agreed : {A : Type 0} (p q : A → Bool) (xs : List A) → ((k : ℕ) (x : A) → slice_get xs k ≡ Some x → p x ≡ q x) → position p xs ≡ position q xs
first_agreed p q xs h = position_counted p xs ∙ from_agreed p q 0 xs h ∙ sym (position_counted q xs)

-- there is such a place where a member passes
found_by : {A : Type 0} (p : A → Bool) (i : ℕ) (x : A) (xs : List A) (b : Bool) → p x ≡ b → ((n : ℕ) × (position_from p (i + 1) xs ≡ Some n)) → (n : ℕ) × (position_from p i (x ∷ xs) ≡ Some n)
found_by p i x xs true e h = (i, ap (λ (b : Bool). cond b (Some i) (position_from p (i + 1) xs)) e)
found_by p i x xs false e h = (h.0, ap (λ (b : Bool). cond b (Some i) (position_from p (i + 1) xs)) e ∙ h.1)

from_found : {A : Type 0} (p : A → Bool) (i k : ℕ) (xs : List A) (x : A) → slice_get xs k ≡ Some x → p x ≡ true → (n : ℕ) × (position_from p i xs ≡ Some n)
from_found p i k [] x e h = absurd (cc e)
from_found p i zero (y ∷ ys) x e h =
    let s : y ≡ x = cc e in
    (i, ap (λ (b : Bool). cond b (Some i) (position_from p (i + 1) ys)) (ap p s ∙ h))
from_found p i (suc k) (y ∷ ys) x e h = found_by p i y ys (p y) refl (from_found p (i + 1) k ys x e h)

pub is_found : {A : Type 0} (p : A → Bool) (k : ℕ) (xs : List A) (x : A) → slice_get xs k ≡ Some x → p x ≡ true → (n : ℕ) × (position p xs ≡ Some n)
is_found p k xs x e h =
    let r : (n : ℕ) × (position_from p 0 xs ≡ Some n) = from_found p 0 k xs x e h in
    (r.0, position_counted p xs ∙ r.1)

-- the members of a list with one more
pub pushed_members : {A : Type 0} (xs : List A) (x : A) (k : ℕ) (y : A) → slice_get (xs ++ x ∷ []) k ≡ Some y → (slice_get xs k ≡ Some y) ⊎ ((k ≡ length xs) × (y ≡ x))
pushed_members [] x zero y e = inr (refl, cc e)
pushed_members [] x (suc k) y e = absurd (cc e)
pushed_members (z ∷ zs) x zero y e = inl e
pushed_members (z ∷ zs) x (suc k) y e =
    elim (pushed_members zs x k y e) as (λ _. (slice_get zs k ≡ Some y) ⊎ ((suc k ≡ length (z ∷ zs)) × (y ≡ x))) [
      | inl h ↦ inl h
      | inr h ↦ inr (omega (arith, h.0), h.1)
    ]

pub kept_member : {A : Type 0} (xs : List A) (x : A) (k : ℕ) (y : A) → slice_get xs k ≡ Some y → slice_get (xs ++ x ∷ []) k ≡ Some y
kept_member [] x k y e = absurd (cc e)
kept_member (z ∷ zs) x zero y e = e
kept_member (z ∷ zs) x (suc k) y e = kept_member zs x k y e

pub last_member : {A : Type 0} (xs : List A) (x : A) → slice_get (xs ++ x ∷ []) (length xs) ≡ Some x
last_member [] x = refl
last_member (z ∷ zs) x = last_member zs x
