-- What counts tell of a list of numbers.
use Rattle.std.proofs.Common.{◌≡◌, ℕ, suc, ◌+◌, ◌<◌, ◌≤◌, Bool, true, false, ◌&&◌, cond, List, [], ◌∷◌, length, get_or, drop, replicate, min, refl, ap, ◌∙◌, arith, length-set, subst}
use Rattle.std.specs.Prelude.{count_by, nat_eq, slice_index_or}
use Rattle.std.specs.List.{list_all}
use Rattle.std.proofs.lemmas.Bool.Decides.{nat_tests}
use Rattle.std.proofs.lemmas.Bool.{eqb-true, eqb-false}
use Rattle.std.proofs.lemmas.List.{length-replicate, nil_from_length, get_or-set_same, get_or-set_other, get_or-replicate}
use Rattle.std.proofs.lemmas.List.Sums.{sum_by-cons}
use Rattle.wasm_syntax.specs.Shapes.{all_from}
use Rattle.module_shapes.specs.Counts.{with_one, counted}

-- one more of one number, at any number
one_more : (counts : List ℕ) (b k : ℕ) → k < length counts → slice_index_or counts k 0 ≤ 255 → slice_index_or (with_one counts b) k 0 ≡ min 255 (slice_index_or counts k 0 + cond (nat_eq k b) 1 0)
one_more counts b k h small = by_case (nat_eq k b) refl
  where
    at_other : (k ≡ b → ⊥) → get_or (with_one counts b) k 0 ≡ get_or counts k 0
    at_other ne = get_or-set_other counts b k _ 0 ne

    by_case : (t : Bool) → nat_eq k b ≡ t → slice_index_or (with_one counts b) k 0 ≡ min 255 (slice_index_or counts k 0 + cond t 1 0)
    by_case true p =
        let same : k ≡ b = eqb-true k b p in
        subst (λ (i : ℕ). slice_index_or (with_one counts i) k 0 ≡ min 255 (slice_index_or counts k 0 + 1)) same
        (get_or-set_same counts k (min 255 (slice_index_or counts k 0 + 1)) 0 h)
    by_case false p = at_other (eqb-false k b p) ∙ omega (arith, small)

kept : (counts : List ℕ) (b : ℕ) → length (with_one counts b) ≡ length counts
kept counts b = length-set counts b _

pub length-counted : (counts named : List ℕ) → length (counted counts named) ≡ length counts
length-counted counts [] = refl
length-counted counts (b ∷ bs) = length-counted (with_one counts b) bs ∙ kept counts b

pub counted_is : (counts named : List ℕ) (k : ℕ) → k < length counts → slice_index_or counts k 0 ≤ 255 → slice_index_or (counted counts named) k 0 ≡ min 255 (slice_index_or counts k 0 + count_by (nat_eq k) named)
counted_is counts [] k h small = omega arith
counted_is counts (b ∷ bs) k h small =
    let one = one_more counts b k h small in
    let next : k < length (with_one counts b) = omega (arith, kept counts b) in
    let still : slice_index_or (with_one counts b) k 0 ≤ 255 = omega (arith, one) in
    let rest = counted_is (with_one counts b) bs k next still in
    omega (arith, one, rest, sum_by-cons (λ (x : ℕ). cond (nat_eq k x) 1 0) b bs)

-- counts that stop at 255 are 1 exactly where the numbers are
is_one : (n : ℕ) → nat_eq (min 255 n) 1 ≡ nat_eq n 1
is_one n = grind (arith, nat_tests)

shifted : (n j : ℕ) → n + suc j ≡ suc n + j
shifted n j = omega arith

and_both : (a b c d : Bool) → a ≡ b → c ≡ d → (a && c) ≡ (b && d)
and_both a b c d p q = cc

once_from : {A : Type 0} (named : List ℕ) (n : ℕ) (xs : List A) (counts : List ℕ) → length counts ≡ length xs → ((j : ℕ) → j < length counts → slice_index_or counts j 0 ≡ min 255 (count_by (nat_eq (n + j)) named)) → list_all (λ count. nat_eq count 1) counts ≡ all_from (λ own x. nat_eq (count_by (nat_eq own) named) 1) n xs
once_from named n [] [] e h = refl
once_from named n [] (c ∷ counts) e h = absurd cc
once_from named n (x ∷ xs) [] e h = absurd cc
once_from named n (x ∷ xs) (c ∷ counts) e h =
    let zero_more : n + 0 ≡ n = omega arith in
    let here : nat_eq c 1 ≡ nat_eq (count_by (nat_eq n) named) 1 =
    ap (λ (m : ℕ). nat_eq m 1) (h 0 (omega arith)) ∙ is_one (count_by (nat_eq (n + 0)) named) ∙ ap (λ (m : ℕ). nat_eq (count_by (nat_eq m) named) 1) zero_more in
    let next : (j : ℕ) → j < length counts → slice_index_or counts j 0 ≡ min 255 (count_by (nat_eq (suc n + j)) named) =
    λ j at. h (suc j) (omega (arith, at)) ∙ ap (λ (m : ℕ). min 255 (count_by (nat_eq m) named)) (shifted n j) in
    and_both _ _ _ _ here (once_from named (suc n) xs counts (omega (arith, e)) next)

abbrev zeros : ℕ → List ℕ
zeros n = replicate (suc n) 0

length_zeros : (n : ℕ) → length (zeros n) ≡ suc n
length_zeros n = length-replicate (suc n) 0

one_later : (j : ℕ) → suc j ≡ 1 + j
one_later j = omega arith

pub named_once : {A : Type 0} (named : List ℕ) (xs : List A) → list_all (λ count. nat_eq count 1) (drop 1 (counted (replicate (length xs) 0) named)) ≡ all_from (λ own x. nat_eq (count_by (nat_eq own) named) 1) 1 (drop 1 xs)
named_once named [] = ap (λ (counts : List ℕ). list_all (λ count. nat_eq count 1) (drop 1 counts)) (nil_from_length (counted [] named) (length-counted [] named))
named_once named (x ∷ xs) = first (counted (zeros (length xs)) named) (length-counted (zeros (length xs)) named) all
  where
    none : (j : ℕ) → j < suc (length xs) → slice_index_or (zeros (length xs)) j 0 ≡ 0
    none j at = get_or-replicate (suc (length xs)) j 0 0 at

    all : (j : ℕ) → j < suc (length xs) → slice_index_or (counted (zeros (length xs)) named) j 0 ≡ min 255 (count_by (nat_eq j) named)
    all j at =
        let short : j < length (zeros (length xs)) = omega (arith, length_zeros (length xs)) in
        let zero' = none j at in
        counted_is (zeros (length xs)) named j short (omega (arith, zero')) ∙ omega (arith, zero')

    first : (counts : List ℕ) → length counts ≡ length (zeros (length xs)) → ((j : ℕ) → j < suc (length xs) → slice_index_or counts j 0 ≡ min 255 (count_by (nat_eq j) named)) → list_all (λ count. nat_eq count 1) (drop 1 counts) ≡ all_from (λ own x. nat_eq (count_by (nat_eq own) named) 1) 1 xs
    first [] e h = absurd cc
    first (c ∷ counts) e h =
        let long : length counts ≡ length xs = omega (arith, e, length_zeros (length xs)) in
        once_from named 1 xs counts long (λ j at. h (suc j) (omega (arith, at, long)) ∙ ap (λ (m : ℕ). min 255 (count_by (nat_eq m) named)) (one_later j))
