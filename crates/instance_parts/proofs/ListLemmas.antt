-- Lists that are made one item after another.
use Rattle.std.proofs.Common.{◌≡◌, ℕ, zero, suc, ◌+◌, ◌-◌, ◌≤◌, List, [], ◌∷◌, ◌++◌, length, map, drop, sym, ap, ◌∙◌, inl, inr, arith, add-zero, append_assoc}
use Rattle.std.proofs.lemmas.Bool.{cases_lt, lt-ltb, le-ltb, true≢false}
use Rattle.std.proofs.lemmas.List.{map-append}
use Rattle.std.proofs.lemmas.Option.{same_Some, none-some, slice_get_cases}
use Rattle.std.specs.List.{cons_option, filter_map}
use Rattle.std.specs.Prelude.{Option, Some, None, false, nat_lt, slice_get}
use Rattle.wasm_syntax.specs.Rules.{is_past}
use Rattle.law_images.specs.Leading.{imaged, left}
use Rattle.spec_execution.specs.Allocation.{from}
use Rattle.instance_parts.specs.Objects.{first_of}

-- the next number behind those from one on
from_next : (n k : ℕ) → from n k ++ (n + k) ∷ [] ≡ from n (suc k)
from_next n zero = ap (λ (x : ℕ). x ∷ []) (add-zero n)
from_next n (suc k) =
    let e : n + suc k ≡ suc n + k = omega arith in
    ap (λ (l : List ℕ). n ∷ l) (ap (λ (x : ℕ). from (suc n) k ++ x ∷ []) e ∙ from_next (suc n) k)

pub from_more : (first n : ℕ) → first ≤ n → from first (n - first) ++ n ∷ [] ≡ from first ((n + 1) - first)
from_more first n h =
    let e : n ≡ first + (n - first) = omega arith in
    let f : suc (n - first) ≡ (n + 1) - first = omega arith in
    ap (λ (x : ℕ). from first (n - first) ++ x ∷ []) e ∙ from_next first (n - first) ∙ ap (from first) f

pub from_more_behind : (done : List ℕ) (first n : ℕ) → first ≤ n →
    (done ++ from first (n - first)) ++ n ∷ [] ≡ done ++ from first ((n + 1) - first)
from_more_behind done first n h =
    append_assoc done (from first (n - first)) (n ∷ []) ∙ ap (λ (l : List ℕ). done ++ l) (from_more first n h)

pub from_more_mapped : {A : Type 0} (f : ℕ → A) (n : ℕ) → map f (from 0 n) ++ f n ∷ [] ≡ map f (from 0 (n + 1))
from_more_mapped f n =
    let e : 0 + n ≡ n = omega arith in
    let g : suc n ≡ n + 1 = omega arith in
    sym (map-append f (from 0 n) (n ∷ []))
    ∙ ap (λ (x : ℕ). map f (from 0 n ++ x ∷ [])) (sym e)
    ∙ ap (map f) (from_next 0 n ∙ ap (from 0) g)

-- an item taken from the front of what is due is put behind what is done
taken : {A : Type 0} (done due all : List A) (x : A) → done ++ x ∷ due ≡ all → (done ++ x ∷ []) ++ due ≡ all
taken done due all x e = append_assoc done (x ∷ []) due ∙ e

-- ---- what is left of a list begins at a place of it

module _ {A : Type 0} where
  pub rest_there : (xs : List A) (n : ℕ) (x : A) (tail : List A) → drop n xs ≡ x ∷ tail → slice_get xs n ≡ Some x
  rest_there xs zero x tail e = ap (λ (l : List A). slice_get l 0) e
  rest_there [] (suc n) x tail e = absurd (omega (arith, ap length e))
  rest_there (y ∷ xs) (suc n) x tail e = rest_there xs n x tail e

  pub rest_next : (xs : List A) (n : ℕ) (x : A) (tail : List A) → drop n xs ≡ x ∷ tail → tail ≡ drop (n + 1) xs
  rest_next xs zero x tail e = ap (drop 1) (sym e)
  rest_next [] (suc n) x tail e = absurd (omega (arith, ap length e))
  rest_next (y ∷ xs) (suc n) x tail e =
      let next : suc n + 1 ≡ suc (n + 1) = omega arith in
      rest_next xs n x tail e ∙ ap (λ (k : ℕ). drop k (y ∷ xs)) (sym next)

  there_rest : (xs : List A) (n : ℕ) (x : A) → slice_get xs n ≡ Some x → drop n xs ≡ x ∷ drop (n + 1) xs
  there_rest [] n x e = absurd (none-some x e)
  there_rest (y ∷ xs) zero x e = ap (λ (z : A). z ∷ xs) (same_Some y x e)
  there_rest (y ∷ xs) (suc n) x e =
      let next : suc n + 1 ≡ suc (n + 1) = omega arith in
      there_rest xs n x e ∙ ap (λ (k : ℕ). x ∷ drop k (y ∷ xs)) (sym next)

-- no list of a module is longer than it may be
pub few : {A : Type 0} (xs : List A) → ((x : A) → slice_get xs 1000000 ≡ Some x → is_past 1000000 x ≡ false) →
    length xs ≤ 1000000
few xs h = elim (slice_get_cases xs 1000000).1 [ inl p ↦ absurd (true≢false (h p.0 p.2)) | inr p ↦ p.0 ]

-- one more object was made
pub object_pushed : {H Object : Type 0} (f : H → Object) (done pushed : List H) (h : H) (x : Object) →
    pushed ≡ done ++ h ∷ [] → f h ≡ x → map f pushed ≡ map f done ++ x ∷ []
object_pushed {H} {Object} f done pushed h x e is =
    ap (map f) e ∙ map-append f done (h ∷ []) ∙ ap (λ (y : Object). map f done ++ y ∷ []) is

-- one more object over its image
pub imaged_more : {Declared Item Object : Type 0} (object : Declared → List Item → Object) (images : List (List Item))
    (rest tail : List Declared) (n : ℕ) (d : Declared) (image : List Item) (done all : List Object) → rest ≡ d ∷ tail →
    slice_get images n ≡ Some image → done ++ imaged object rest (drop n images) ≡ all →
    (done ++ object d image ∷ []) ++ imaged object tail (drop (n + 1) images) ≡ all
imaged_more {Declared} {Item} {Object} object images rest tail n d image done all first there due =
    taken done (imaged object tail (drop (n + 1) images)) all (object d image)
    (ap (λ (l : List (List Item)). done ++ imaged object (d ∷ tail) l) (sym (there_rest images n image there))
    ∙ ap (λ (l : List Declared). done ++ imaged object l (drop n images)) (sym first)
    ∙ due)

-- one more segment, which leads or not
module _ {Declared Item : Type 0} (kept whole : Declared → List Item) where
  left_next : (leading n : ℕ) (x : Declared) (xs : List Declared) →
      left kept whole (leading - n) (x ∷ xs)
      ≡ first_of (nat_lt n leading) kept whole x ∷ left kept whole (leading - (n + 1)) xs
  left_next leading n x xs =
      elim (cases_lt n leading) [
        | inl p ↦
            (let next : leading - n ≡ suc (leading - (n + 1)) = omega (arith, p) in
            ap (λ (k : ℕ). left kept whole k (x ∷ xs)) next
            ∙ ap (λ b. first_of b kept whole x ∷ left kept whole (leading - (n + 1)) xs) (sym (lt-ltb n leading p)))
        | inr p ↦
            (let none : leading - n ≡ 0 = omega (arith, p) in
            let still : leading - (n + 1) ≡ 0 = omega (arith, p) in
            ap (λ (k : ℕ). left kept whole k (x ∷ xs)) none
            ∙ ap (λ (k : ℕ). whole x ∷ left kept whole k xs) (sym still)
            ∙ ap (λ b. first_of b kept whole x ∷ left kept whole (leading - (n + 1)) xs) (sym (le-ltb n leading p)))
      ]

  pub left_more : (leading n : ℕ) (rest tail : List Declared) (x : Declared) (done all : List (List Item)) →
      rest ≡ x ∷ tail → done ++ left kept whole (leading - n) rest ≡ all →
      (done ++ first_of (nat_lt n leading) kept whole x ∷ []) ++ left kept whole (leading - (n + 1)) tail ≡ all
  left_more leading n rest tail x done all first due =
      taken done (left kept whole (leading - (n + 1)) tail) all (first_of (nat_lt n leading) kept whole x)
      (ap (λ (l : List (List Item)). done ++ l) (sym (left_next leading n x tail))
      ∙ ap (λ (l : List Declared). done ++ left kept whole (leading - n) l) (sym first)
      ∙ due)

-- ---- what is there of some items: one more is looked at, and gives something or not

module _ {X Y : Type 0} (f : X → Option Y) (x : X) (rest tail : List X) (first : rest ≡ x ∷ tail) (done all : List Y)
    (due : done ++ filter_map f rest ≡ all) where
  due_by : (found : Option Y) → found ≡ f x → done ++ cons_option found (filter_map f tail) ≡ all
  due_by found e =
      ap (λ (o : Option Y). done ++ cons_option o (filter_map f tail)) e
      ∙ ap (λ (l : List X). done ++ filter_map f l) (sym first)
      ∙ due

  pub given : (y copy : Y) (pushed : List Y) → Some y ≡ f x → copy ≡ y → pushed ≡ done ++ copy ∷ [] →
      pushed ++ filter_map f tail ≡ all
  given y copy pushed e same is =
      ap (λ (l : List Y). l ++ filter_map f tail) (is ∙ ap (λ (t : Y). done ++ t ∷ []) same)
      ∙ taken done (filter_map f tail) all y (due_by (Some y) e)

  pub missed : None ≡ f x → done ++ filter_map f tail ≡ all
  missed e = due_by None e
