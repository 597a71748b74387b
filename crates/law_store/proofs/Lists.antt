-- Lists of which something holds of each member, and lists of which the second has the first one's members.
use Rattle.std.proofs.Common.{◌≡◌, ℕ, zero, suc, ◌+◌, true, ltb, List, [], ◌∷◌, ◌++◌, length, set, take, drop, replicate, slice_get, Some, refl, sym, ◌∙◌, subst, inl, inr, arith}
use Rattle.std.proofs.lemmas.Bool.{ltb-true, lt-ltb}
use Rattle.std.proofs.lemmas.Option.{same_Some, none-some, slice_get_within, slice_get_cases}
use Rattle.wasm_types.specs.Each.{Each}
use Rattle.wasm_types.specs.Ranges.{range_of, with_range}
use Rattle.law_store.specs.Later.{There, Later}

module _ {A : Type 0} (P : A → Type 0) where
  pub each_none : Each [] P
  each_none n x e = absurd (none-some x e)

  pub each_more : (y : A) (xs : List A) → P y → Each xs P → Each (y ∷ xs) P
  each_more y xs p h zero x e = subst P (same_Some y x e) p
  each_more y xs p h (suc n) x e = h n x e

  pub each_one : (y : A) → P y → Each (y ∷ []) P
  each_one y p = each_more y [] p each_none

  pub each_rest : (y : A) (xs : List A) → Each (y ∷ xs) P → Each xs P
  each_rest y xs h n x e = h (suc n) x e

  pub each_push : (xs : List A) (y : A) → Each xs P → P y → Each (xs ++ y ∷ []) P
  each_push [] y h p = each_more y [] p h
  each_push (x ∷ xs) y h p = each_more x (xs ++ y ∷ []) (h 0 x refl) (each_push xs y (each_rest x xs h) p)

  pub each_append : (xs ys : List A) → Each xs P → Each ys P → Each (xs ++ ys) P
  each_append [] ys h k = k
  each_append (x ∷ xs) ys h k = each_more x (xs ++ ys) (h 0 x refl) (each_append xs ys (each_rest x xs h) k)

  pub each_set : (xs : List A) (i : ℕ) (y : A) → Each xs P → P y → Each (set xs i y) P
  each_set [] i y h p = h
  each_set (x ∷ xs) zero y h p = each_more y xs p (each_rest x xs h)
  each_set (x ∷ xs) (suc i) y h p = each_more x (set xs i y) (h 0 x refl) (each_set xs i y (each_rest x xs h) p)

  pub each_replicate : (n : ℕ) (y : A) → P y → Each (replicate n y) P
  each_replicate zero y p = each_none
  each_replicate (suc n) y p = each_more y (replicate n y) p (each_replicate n y p)

  pub each_take : (n : ℕ) (xs : List A) → Each xs P → Each (take n xs) P
  each_take zero xs h = each_none
  each_take (suc n) [] h = each_none
  each_take (suc n) (x ∷ xs) h = each_more x (take n xs) (h 0 x refl) (each_take n xs (each_rest x xs h))

  pub each_drop : (n : ℕ) (xs : List A) → Each xs P → Each (drop n xs) P
  each_drop zero xs h = h
  each_drop (suc n) [] h = each_none
  each_drop (suc n) (x ∷ xs) h = each_drop n xs (each_rest x xs h)

  pub each_range : (at len : ℕ) (xs : List A) → Each xs P → Each (range_of at len xs) P
  each_range at len xs h = each_take len (drop at xs) (each_drop at xs h)

  pub each_with_range : (at : ℕ) (piece xs : List A) → Each piece P → Each xs P → Each (with_range at piece xs) P
  each_with_range at piece xs p h =
      each_append (take at xs ++ piece) (drop (at + length piece) xs)
      (each_append (take at xs) piece (each_take at xs h) p) (each_drop (at + length piece) xs h)

-- what holds of each member by another property
pub each_by : {A : Type 0} (P Q : A → Type 0) (xs : List A) → ((x : A) → P x → Q x) → Each xs P → Each xs Q
each_by P Q xs f h n x e = f x (h n x e)

there : {A : Type 0} (R : A → Type 0) (xs : List A) (n : ℕ) (x : A) → slice_get xs n ≡ Some x → R x → There xs n R
there R xs n x e r = record { member = x; found = e; says = r }

module _ {A : Type 0} (R : A → A → Type 0) where
  pub later_same : (xs : List A) → ((x : A) → R x x) → Later xs xs R
  later_same xs own n x e = there (R x) xs n x e (own x)

  pub later_append : (xs ys : List A) → ((x : A) → R x x) → Later xs (xs ++ ys) R
  later_append [] ys own n x e = absurd (none-some x e)
  later_append (z ∷ xs) ys own zero x e = there (R x) (z ∷ (xs ++ ys)) zero x e (own x)
  later_append (z ∷ xs) ys own (suc n) x e =
      let t : There (xs ++ ys) n (R x) = later_append xs ys own n x e in
      there (R x) (z ∷ (xs ++ ys)) (suc n) t.member t.found t.says

  pub later_set : (xs : List A) (i : ℕ) (x y : A) → ((z : A) → R z z) → slice_get xs i ≡ Some x → R x y →
      Later xs (set xs i y) R
  later_set [] i x y own f r n z e = absurd (none-some z e)
  later_set (w ∷ xs) zero x y own f r zero z e =
      there (R z) (y ∷ xs) zero y refl (subst (λ v. R v y) (sym (same_Some w x f) ∙ same_Some w z e) r)
  later_set (w ∷ xs) zero x y own f r (suc n) z e = there (R z) (y ∷ xs) (suc n) z e (own z)
  later_set (w ∷ xs) (suc i) x y own f r zero z e = there (R z) (w ∷ set xs i y) zero z e (own z)
  later_set (w ∷ xs) (suc i) x y own f r (suc n) z e =
      let t : There (set xs i y) n (R z) = later_set xs i x y own f r n z e in
      there (R z) (w ∷ set xs i y) (suc n) t.member t.found t.says

  pub later_transitive : (xs ys zs : List A) → ((x y z : A) → R x y → R y z → R x z) → Later xs ys R → Later ys zs R →
      Later xs zs R
  later_transitive xs ys zs step f g n x e =
      let t : There ys n (R x) = f n x e in let u : There zs n (R t.member) = g n t.member t.found in
      there (R x) zs n u.member u.found (step x t.member u.member t.says u.says)

  -- a place that is there stays there
  pub later_place : (xs ys : List A) (n : ℕ) → Later xs ys R → ltb n (length xs) ≡ true → ltb n (length ys) ≡ true
  later_place xs ys n f h =
      elim (slice_get_cases xs n).1 [
        | inl t ↦ let u : There ys n (R t.0) = f n t.0 t.2 in
            lt-ltb n (length ys) (slice_get_within ys n u.member u.found)
        | inr t ↦ absurd (omega (arith, ltb-true n (length xs) h, t.0))
      ]
