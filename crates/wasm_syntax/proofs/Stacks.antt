-- Typing over operands in the order in which they were pushed, as code keeps them: the last on top.
use Rattle.std.proofs.Common.{◌≡◌, ℕ, suc, ◌+◌, ◌<◌, Bool, true, false, ◌&&◌, List, [], ◌∷◌, ◌++◌, length, take, drop, reverse, refl, ap, sym, ◌∙◌, arith, eqb, true≢false}
use Rattle.std.proofs.lemmas.Bool.{eqb-true, eq-eqb}
use Rattle.std.proofs.lemmas.List.{reverse-append, length-reverse, length-drop, take-append-drop}
use mathlib.Core.List.{reverse_aux}
use Rattle.wasm_types.specs.Matching.{val_matches, all_match}
use Rattle.wasm_types.specs.declared.value_types.ValType.{ValType}
use Rattle.wasm_syntax.specs.Typing.{Typed, Reached, IllTyped, given, want_from_top, want_all, onto, ends_in}

given_both : (a b : Bool) (t : Typed) → given a (given b t) ≡ given (a && b) t
given_both true b t = refl
given_both false b t = refl

-- as many operands as are wanted, from the top
from_top : (wanted ts rest : List ValType) (go : List ValType → Typed) → length ts ≡ length wanted → want_from_top wanted (ts ++ rest) go ≡ given (all_match ts wanted) (go rest)
from_top [] [] rest go e = refl
from_top [] (t ∷ ts) rest go e = absurd cc
from_top (w ∷ ws) [] rest go e = absurd cc
from_top (w ∷ ws) (t ∷ ts) rest go e =
    let next : length ts ≡ length ws = omega (arith, e) in
    ap (given (val_matches t w)) (from_top ws ts rest go next) ∙ given_both (val_matches t w) (all_match ts ws) (go rest)

-- fewer operands than are wanted
given_bad : (b : Bool) → given b IllTyped ≡ IllTyped
given_bad true = refl
given_bad false = refl

too_few : (wanted ts : List ValType) (go : List ValType → Typed) → length ts < length wanted → want_from_top wanted ts go ≡ IllTyped
too_few [] ts go h = absurd (omega (arith, h))
too_few (w ∷ ws) [] go h = refl
too_few (w ∷ ws) (t ∷ ts) go h =
    let next : length ts < length ws = omega (arith, h) in
    ap (given (val_matches t w)) (too_few ws ts go next) ∙ given_bad (val_matches t w)

-- lists that match, the other way round
moved : (a b c : Bool) → (b && (a && c)) ≡ ((a && b) && c)
moved true true c = refl
moved true false c = refl
moved false true c = refl
moved false false c = refl

match_onto : (as' bs ps qs : List ValType) → length as' ≡ length bs → all_match (reverse_aux as' ps) (reverse_aux bs qs) ≡ (all_match as' bs && all_match ps qs)
match_onto [] [] ps qs e = refl
match_onto [] (b ∷ bs) ps qs e = absurd cc
match_onto (a ∷ as') [] ps qs e = absurd cc
match_onto (a ∷ as') (b ∷ bs) ps qs e =
    let next : length as' ≡ length bs = omega (arith, e) in
    match_onto as' bs (a ∷ ps) (b ∷ qs) next ∙ moved (val_matches a b) (all_match as' bs) (all_match ps qs)

and_true : (b : Bool) → (b && true) ≡ b
and_true true = refl
and_true false = refl

match_reverse : (as' bs : List ValType) → length as' ≡ length bs → all_match (reverse as') (reverse bs) ≡ all_match as' bs
match_reverse as' bs e = match_onto as' bs [] [] e ∙ and_true (all_match as' bs)

and_false : (b : Bool) → (b && false) ≡ false
and_false true = refl
and_false false = refl

unequal : (as' bs : List ValType) → ((length as' ≡ length bs) → ⊥) → all_match as' bs ≡ false
unequal [] [] h = absurd (h refl)
unequal [] (b ∷ bs) h = refl
unequal (a ∷ as') [] h = refl
unequal (a ∷ as') (b ∷ bs) h = ap (λ c. val_matches a b && c) (unequal as' bs (λ e. h (ap suc e))) ∙ and_false (val_matches a b)

-- what is wanted stands at the end of the operands
pub want_all_at : (wanted xs : List ValType) (go : List ValType → Typed) (n : ℕ) → n + length wanted ≡ length xs → want_all wanted (reverse xs) go ≡ given (all_match (drop n xs) wanted) (go (reverse (take n xs)))
want_all_at wanted xs go n e =
    let back = reverse (drop n xs) in
    let long : length (drop n xs) ≡ length wanted = omega (arith, length-drop n xs, e) in
    let split : reverse xs ≡ back ++ reverse (take n xs) = ap reverse (sym (take-append-drop n xs)) ∙ reverse-append (take n xs) (drop n xs) in
    let same : length back ≡ length (reverse wanted) = length-reverse (drop n xs) ∙ long ∙ sym (length-reverse wanted) in
    ap (λ ts. want_from_top (reverse wanted) ts go) split
    ∙ from_top (reverse wanted) back (reverse (take n xs)) go same
    ∙ ap (λ b. given b (go (reverse (take n xs)))) (match_reverse (drop n xs) wanted long)

pub want_all_short : (wanted xs : List ValType) (go : List ValType → Typed) → length xs < length wanted → want_all wanted (reverse xs) go ≡ IllTyped
want_all_short wanted xs go h = too_few (reverse wanted) (reverse xs) go (omega (arith, h, length-reverse wanted, length-reverse xs))

-- what is pushed stands at the end
pub onto_pushed : (new xs : List ValType) → onto new (reverse xs) ≡ reverse (xs ++ new)
onto_pushed new xs = sym (reverse-append xs new)

-- the operands at the end of code against its results
pub ends_in_order : (results xs : List ValType) → ends_in results (Reached (reverse xs)) ≡ all_match xs results
ends_in_order results xs = by_length (eqb (length xs) (length results)) refl
  where
    by_length : (b : Bool) → eqb (length xs) (length results) ≡ b → all_match (reverse xs) (reverse results) ≡ all_match xs results
    by_length true e = match_reverse xs results (eqb-true _ _ e)
    by_length false e =
        let other : (length xs ≡ length results) → ⊥ = λ same. true≢false (sym (eq-eqb (length xs) (length results) same) ∙ e) in
        unequal (reverse xs) (reverse results) (λ same. other (sym (length-reverse xs) ∙ same ∙ length-reverse results)) ∙ sym (unequal xs results other)
