-- A front that was written to, filled up, is the whole list written to.
use Rattle.std.specs.Prelude.{ℕ, zero, suc, ◌+◌, ◌-◌, ◌≤◌, List, [], ◌∷◌, ◌++◌, length, take, drop, replicate, ◌≡◌}
use Rattle.std.proofs.Common.{arith, ap, sym, ◌∙◌, length-append}
use Rattle.std.proofs.lemmas.List.{append_assoc, append-nil, take-append-le, take-append-drop, drop-replicate, length-replicate, replicate-append-replicate, length-take, length-drop}
use Rattle.wasm_types.specs.Ranges.{with_range, padded, written}

module _ {A : Type 0} where
  pub drop_append : (n : ℕ) (xs ys : List A) → drop n (xs ++ ys) ≡ drop n xs ++ drop (n - length xs) ys
  drop_append zero xs ys =
      let e : zero ≡ zero - length xs = omega arith in
      ap (λ k. xs ++ drop k ys) e
  drop_append (suc n) [] ys =
      let e : suc n ≡ suc n - zero = omega arith in
      ap (λ k. drop k ys) e
  drop_append (suc n) (x ∷ xs) ys =
      let e : n - length xs ≡ suc n - suc (length xs) = omega arith in
      drop_append n xs ys ∙ ap (λ k. drop n xs ++ drop k ys) e

  pub padded_length : (size : ℕ) (blank : A) (items : List A) →
      length (padded size blank items) ≡ length items + (size - length items)
  padded_length size blank items =
      length-append items (replicate (size - length items) blank) ∙
      ap (λ k. length items + k) (length-replicate (size - length items) blank)

  -- filled up in two steps
  padded_twice : (at size : ℕ) (blank : A) (items : List A) → at ≤ size →
      padded size blank items ≡ padded size blank (padded at blank items)
  padded_twice at size blank items le =
      let l : ℕ = length items in
      let first : ℕ = at - l in
      let rest : ℕ = size - length (padded at blank items) in
      let e : size - l ≡ first + rest = omega (arith, le, padded_length at blank items) in
      ap (λ k. items ++ replicate k blank) e ∙
      ap (λ ys. items ++ ys) (sym (replicate-append-replicate first rest blank)) ∙
      sym (append_assoc items (replicate first blank) (replicate rest blank))

  written_within : (at size : ℕ) (blank : A) (items piece : List A) → at + length piece ≤ size → at ≤ length items →
      padded size blank (with_range at piece items) ≡ with_range at piece (padded size blank items)
  written_within at size blank items piece le there =
      let front : List A = take at items ++ piece in
      let behind : List A = drop (at + length piece) items in
      let fill : List A = replicate (size - length items) blank in
      let long : length (front ++ behind) ≡ at + length piece + (length items - (at + length piece)) =
      omega (
        arith,
        there,
        length-append front behind,
        length-append (take at items) piece,
        length-take at items,
        length-drop (at + length piece) items,
      ) in
      let left : size - length (front ++ behind) ≡ (size - length items) - ((at + length piece) - length items) =
      omega (arith, le, long) in
      append_assoc front behind (replicate (size - length (front ++ behind)) blank) ∙
      ap (λ k. front ++ (behind ++ replicate k blank)) left ∙
      ap (λ ys. front ++ (behind ++ ys))
      (sym (drop-replicate ((at + length piece) - length items) (size - length items) blank)) ∙
      ap (λ ys. front ++ ys) (sym (drop_append (at + length piece) items fill)) ∙
      ap (λ ys. ys ++ piece ++ drop (at + length piece) (items ++ fill)) (sym (take-append-le at items fill there))

  nothing_written : (at : ℕ) (items : List A) → items ≡ with_range at [] items
  nothing_written at items =
      let e : at ≡ at + zero = omega arith in
      sym (take-append-drop at items) ∙
      ap (λ ys. ys ++ drop at items) (sym (append-nil (take at items))) ∙
      ap (λ k. take at items ++ [] ++ drop k items) e

  -- within a size, a front that is written to and filled up is the list that is filled up and written to
  pub padded_written : (at size : ℕ) (blank : A) (piece items : List A) → at + length piece ≤ size →
      padded size blank (written blank at piece items) ≡ with_range at piece (padded size blank items)
  padded_written at size blank [] items le = nothing_written at (padded size blank items)
  padded_written at size blank (x ∷ piece) items le =
      let there : at ≤ length (padded at blank items) = omega (arith, padded_length at blank items) in
      let small : at ≤ size = omega (arith, le) in
      written_within at size blank (padded at blank items) (x ∷ piece) le there ∙
      ap (with_range at (x ∷ piece)) (sym (padded_twice at size blank items small))
