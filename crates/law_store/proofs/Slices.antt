-- The members of lists that are made of others.
use Rattle.std.proofs.Common.{◌≡◌, ◌≢◌, ◌⊎◌, ℕ, zero, suc, ◌+◌, ◌-◌, ◌<◌, ◌≤◌, List, [], ◌∷◌, ◌++◌, length, set, take, drop, replicate, slice_get, Some, None, refl, sym, ap, ◌∙◌, inl, inr, arith, suc-add, zero-add, length-append}
use Rattle.std.proofs.lemmas.Bool.{cases_lt}
use Rattle.std.proofs.lemmas.List.{length-take, drop_at, take_all}
use Rattle.std.proofs.lemmas.Option.{same_Some, none-some, slice_get_past}
use Rattle.wasm_types.specs.Ranges.{range_of, with_range}

module _ {A : Type 0} where
  pub slice_append_left : (xs ys : List A) (i : ℕ) → i < length xs → slice_get (xs ++ ys) i ≡ slice_get xs i
  slice_append_left [] ys i h = absurd (omega (arith, h))
  slice_append_left (x ∷ xs) ys zero h = refl
  slice_append_left (x ∷ xs) ys (suc i) h = slice_append_left xs ys i (omega (arith, h))

  pub slice_append_right : (xs ys : List A) (k : ℕ) → slice_get (xs ++ ys) (length xs + k) ≡ slice_get ys k
  slice_append_right [] ys k = ap (slice_get ys) (zero-add k)
  slice_append_right (x ∷ xs) ys k = ap (slice_get (x ∷ (xs ++ ys))) (suc-add (length xs) k)
      ∙ slice_append_right xs ys k

  pub slice_take : (n : ℕ) (xs : List A) (i : ℕ) → i < n → slice_get (take n xs) i ≡ slice_get xs i
  slice_take zero xs i h = absurd (omega (arith, h))
  slice_take (suc n) [] i h = refl
  slice_take (suc n) (x ∷ xs) zero h = refl
  slice_take (suc n) (x ∷ xs) (suc i) h = slice_take n xs i (omega (arith, h))

  pub slice_drop : (n : ℕ) (xs : List A) (i : ℕ) → slice_get (drop n xs) i ≡ slice_get xs (n + i)
  slice_drop zero xs i = ap (slice_get xs) (sym (zero-add i))
  slice_drop (suc n) [] i = refl
  slice_drop (suc n) (x ∷ xs) i = slice_drop n xs i ∙ sym (ap (slice_get (x ∷ xs)) (suc-add n i))

  pub slice_replicate : (n : ℕ) (y : A) (i : ℕ) → i < n → slice_get (replicate n y) i ≡ Some y
  slice_replicate zero y i h = absurd (omega (arith, h))
  slice_replicate (suc n) y zero h = refl
  slice_replicate (suc n) y (suc i) h = slice_replicate n y i (omega (arith, h))

  pub slice_set_same : (xs : List A) (i : ℕ) (y : A) → i < length xs → slice_get (set xs i y) i ≡ Some y
  slice_set_same [] i y h = absurd (omega (arith, h))
  slice_set_same (x ∷ xs) zero y h = refl
  slice_set_same (x ∷ xs) (suc i) y h = slice_set_same xs i y (omega (arith, h))

  pub slice_set_other : (xs : List A) (i j : ℕ) (y : A) → j ≢ i → slice_get (set xs i y) j ≡ slice_get xs j
  slice_set_other [] i j y h = refl
  slice_set_other (x ∷ xs) zero zero y h = absurd (h refl)
  slice_set_other (x ∷ xs) zero (suc j) y h = refl
  slice_set_other (x ∷ xs) (suc i) zero y h = refl
  slice_set_other (x ∷ xs) (suc i) (suc j) y h = slice_set_other xs i j y (λ e. h (ap suc e))

  -- lists of the same members are the same
  pub same_slices : (xs ys : List A) → ((k : ℕ) → slice_get xs k ≡ slice_get ys k) → xs ≡ ys
  same_slices [] [] h = refl
  same_slices [] (y ∷ ys) h = absurd (none-some y (h zero))
  same_slices (x ∷ xs) [] h = absurd (none-some x (sym (h zero)))
  same_slices (x ∷ xs) (y ∷ ys) h = λ i. same_Some x y (h zero) i ∷ same_slices xs ys (λ k. h (suc k)) i

  -- a range of a list
  pub slice_range_of : (at len : ℕ) (xs : List A) (k : ℕ) → k < len →
      slice_get (range_of at len xs) k ≡ slice_get xs (at + k)
  slice_range_of at len xs k h = slice_take len (drop at xs) k h ∙ slice_drop at xs k

  range_past : (at len : ℕ) (xs : List A) (k : ℕ) → len ≤ k → slice_get (range_of at len xs) k ≡ None
  range_past at len xs k h = slice_get_past (range_of at len xs) k (omega (arith, h, length-take len (drop at xs)))

  pub range_same : (at len : ℕ) (xs ys : List A) →
      ((k : ℕ) → k < len → slice_get xs (at + k) ≡ slice_get ys (at + k)) → range_of at len xs ≡ range_of at len ys
  range_same at len xs ys h =
      same_slices (range_of at len xs) (range_of at len ys) (λ k.
      elim (cases_lt k len) [
        | inl l ↦ slice_range_of at len xs k l ∙ h k l ∙ sym (slice_range_of at len ys k l)
        | inr l ↦ range_past at len xs k l ∙ sym (range_past at len ys k l)
      ])

  -- a list with another range in it
  module _ (at : ℕ) (piece xs : List A) (fits : at + length piece ≤ length xs) where
    front : length (take at xs) ≡ at
    front = omega (arith, fits, length-take at xs)

    pub with_below : (i : ℕ) → i < at → slice_get (with_range at piece xs) i ≡ slice_get xs i
    with_below i h =
        slice_append_left (take at xs ++ piece) (drop (at + length piece) xs) i
        (omega (arith, h, front, length-append (take at xs) piece))
        ∙ slice_append_left (take at xs) piece i (omega (arith, h, front))
        ∙ slice_take at xs i h

    pub with_at : (k : ℕ) → k < length piece → slice_get (with_range at piece xs) (at + k) ≡ slice_get piece k
    with_at k h =
        slice_append_left (take at xs ++ piece) (drop (at + length piece) xs) (at + k)
        (omega (arith, h, front, length-append (take at xs) piece))
        ∙ ap (λ n. slice_get (take at xs ++ piece) (n + k)) (sym front)
        ∙ slice_append_right (take at xs) piece k

    pub with_above : (i : ℕ) → at + length piece ≤ i → slice_get (with_range at piece xs) i ≡ slice_get xs i
    with_above i h =
        let two : length (take at xs ++ piece) ≡ at + length piece = length-append (take at xs) piece
        ∙ ap (λ n. n + length piece) front in
        let place : i ≡ length (take at xs ++ piece) + (i - (at + length piece)) = omega (arith, h, two) in
        let back : (at + length piece) + (i - (at + length piece)) ≡ i = omega (arith, h) in
        ap (slice_get (with_range at piece xs)) place
        ∙ slice_append_right (take at xs ++ piece) (drop (at + length piece) xs) (i - (at + length piece))
        ∙ slice_drop (at + length piece) xs (i - (at + length piece))
        ∙ ap (slice_get xs) back

    pub with_outside : (i : ℕ) → (i < at) ⊎ (at + length piece ≤ i) →
        slice_get (with_range at piece xs) i ≡ slice_get xs i
    with_outside i (inl h) = with_below i h
    with_outside i (inr h) = with_above i h

    -- the range that was put in
    pub with_range_gives : range_of at (length piece) (with_range at piece xs) ≡ piece
    with_range_gives =
        same_slices (range_of at (length piece) (with_range at piece xs)) piece (λ k.
        elim (cases_lt k (length piece)) [
          | inl l ↦ slice_range_of at (length piece) (with_range at piece xs) k l ∙ with_at k l
          | inr l ↦ range_past at (length piece) (with_range at piece xs) k l ∙ sym (slice_get_past piece k l)
        ])

    pub range_beside : (i len : ℕ) → (i + len ≤ at) ⊎ (at + length piece ≤ i) →
        range_of i len (with_range at piece xs) ≡ range_of i len xs
    range_beside i len (inl h) = range_same i len (with_range at piece xs) xs
        (λ k l. with_below (i + k) (omega (arith, h, l)))
    range_beside i len (inr h) = range_same i len (with_range at piece xs) xs
        (λ k l. with_above (i + k) (omega (arith, h, l)))

  -- a list that goes on
  pub range_before : (at len : ℕ) (xs ys : List A) → at + len ≤ length xs →
      range_of at len (xs ++ ys) ≡ range_of at len xs
  range_before at len xs ys h = range_same at len (xs ++ ys) xs
      (λ k l. slice_append_left xs ys (at + k) (omega (arith, h, l)))

  pub range_behind : (xs ys : List A) → range_of (length xs) (length ys) (xs ++ ys) ≡ ys
  range_behind xs ys = ap (take (length ys)) (drop_at xs ys (length xs) refl) ∙ take_all (length ys) ys (omega arith)
