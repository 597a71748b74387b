-- The first item that passes a test, where the length of its list counts too.
use Rattle.std.proofs.Common.{◌≡◌, ◌≢◌, ◌∙◌, sym, ap, refl, ℕ, zero, suc, ◌+◌, ◌<◌, ◌≤◌, add-one, Bool, true, false}
use Rattle.std.proofs.Common.{List, [], ◌∷◌, length, take, Option, Some, None, option_map, nat_eq, arith, if◌then◌else◌, lit≤}
use Rattle.std.specs.Option.{option_or}
use Rattle.std.proofs.lemmas.Bool.{eqb-true, eqb-false, eq-eqb, ne_eqb}
use Rattle.wasm_syntax.specs.FirstBroken.{first_there, first_from, first_in, place}
use Rattle.wasm_syntax.specs.Rules.{is_past}
use Rattle.wasm_syntax.specs.declared.module_fault.Part.{Part}
use Rattle.module_rules.specs.Parts.{is_long_or}

-- the first of one place
pub only_one : {A : Type 0} (o : Option A) → first_there (o ∷ []) ≡ o
only_one None = refl
only_one (Some x) = refl

-- the first item passes, or does not, or no item is left
pub first_from-passed :
    {A : Type 0} (test : ℕ → A → Bool) (n : ℕ) (x : A) (xs rest : List A) → rest ≡ x ∷ xs → test n x ≡ true →
    first_from test n rest ≡ Some n
first_from-passed test n x xs rest e t = ap (first_from test n) e ∙ ap (λ b. if b then Some n else first_from test (suc n) xs) t

pub went_on :
    {A : Type 0} (test : ℕ → A → Bool) (n : ℕ) (x : A) (xs rest : List A) → rest ≡ x ∷ xs → test n x ≡ false →
    first_from test n rest ≡ first_from test (n + 1) xs
went_on test n x xs rest e t =
    ap (first_from test n) e
    ∙ ap (λ b. if b then Some n else first_from test (suc n) xs) t
    ∙ ap (λ m. first_from test m xs) (sym (add-one n))

pub none_left : {A : Type 0} (test : ℕ → A → Bool) (n : ℕ) (xs : List A) → length xs ≡ 0 → first_from test n xs ≡ None
none_left test n [] e = refl
none_left test n (x ∷ xs) e = absurd (omega (arith, e))

-- the first item past the length of a list that is too long
found_past :
    {A : Type 0} (n : ℕ) (xs : List A) → n ≤ 1000000 → 1000000 < n + length xs → first_from is_past n xs ≡ Some 1000000
found_past n [] h k = absurd (omega (arith, h, k))
found_past n (x ∷ xs) h k = by_number (nat_eq n 1000000) refl (found_past (suc n) xs)
  where
    by_number :
        (b : Bool) → nat_eq n 1000000 ≡ b →
        (suc n ≤ 1000000 → 1000000 < suc n + length xs → first_from is_past (suc n) xs ≡ Some 1000000) →
        (if b then Some n else first_from is_past (suc n) xs) ≡ Some 1000000
    by_number true e next = ap Some (eqb-true _ _ e)
    by_number false e next =
        let other : n ≢ 1000000 = eqb-false _ _ e in
        let near : suc n ≤ 1000000 = omega (arith, other, h) in
        let far : 1000000 < suc n + length xs = omega (arith, k) in
        next near far

-- no item is past the length of a list that is not too long
none_past : {A : Type 0} (n : ℕ) (xs : List A) → n + length xs ≤ 1000000 → first_from is_past n xs ≡ None
none_past n [] h = refl
none_past n (x ∷ xs) h =
    let near : suc n + length xs ≤ 1000000 = omega (arith, h) in
    let other : n ≢ 1000000 = λ same. omega (arith, same, h) in
    rw (ne_eqb n 1000000 other) (none_past (suc n) xs near)

pub past_in :
    {A : Type 0} (p : Part) (xs : List A) → 1000000 < length xs → first_in p is_past xs ≡ Some (place p 1000000)
past_in p xs h =
    let far : 1000000 < 0 + length xs = omega (arith, h) in
    ap (option_map (place p)) (found_past 0 xs (lit≤ tt) far)

pub not_past_in : {A : Type 0} (p : Part) (xs : List A) → length xs ≤ 1000000 → first_in p is_past xs ≡ None
not_past_in p xs h =
    let near : 0 + length xs ≤ 1000000 = omega (arith, h) in
    ap (option_map (place p)) (none_past 0 xs near)

-- what is first, and what is first else
first_or :
    {B : Type 0} (b : Bool) (n : B) (short long : Option B) →
    (if b then Some n else option_or short long) ≡ option_or (if b then Some n else short) long
first_or true n short long = refl
first_or false n short long = refl

-- an item of the first k passes its own test alone, and item k is past the length
long_from :
    {A : Type 0} (test : ℕ → A → Bool) (n k : ℕ) (xs : List A) → n + k ≡ 1000000 →
    first_from (is_long_or test) n xs ≡ option_or (first_from test n (take k xs)) (first_from is_past n xs)
long_from test n zero [] e = refl
long_from test n (suc k) [] e = refl
long_from test n zero (x ∷ xs) e =
    let last : n ≡ 1000000 = omega (arith, e) in
    rw (eq-eqb n 1000000 last) refl
long_from test n (suc k) (x ∷ xs) e =
    let other : n ≢ 1000000 = λ same. omega (arith, e, same) in
    let next : suc n + k ≡ 1000000 = omega (arith, e) in
    let rest = ap (λ o. if test n x then Some n else o) (long_from test (suc n) k xs next) in
    let short = first_from test (suc n) (take k xs) in
    rw (ne_eqb n 1000000 other) (rest ∙ first_or (test n x) n short (first_from is_past (suc n) xs))

map_or :
    {A B : Type 0} (f : A → B) (a b : Option A) →
    option_map f (option_or a b) ≡ option_or (option_map f a) (option_map f b)
map_or f None b = refl
map_or f (Some x) b = refl

pub long_in :
    {A : Type 0} (p : Part) (test : ℕ → A → Bool) (xs : List A) →
    first_in p (is_long_or test) xs ≡ option_or (first_in p test (take 1000000 xs)) (first_in p is_past xs)
long_in p test xs =
    ap (option_map (place p)) (long_from test 0 1000000 xs refl)
    ∙ map_or (place p) (first_from test 0 (take 1000000 xs)) (first_from is_past 0 xs)
