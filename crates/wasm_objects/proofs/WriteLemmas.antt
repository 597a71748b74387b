-- What a write to a range leaves, and bytes that were lent.
use Rattle.std.proofs.Common.{◌≡◌, ℕ, ◌+◌, ◌-◌, ◌≤◌, List, [], ◌++◌, length, take, drop, refl, sym, ap, ◌∙◌, arith, length-append, length-drop, append_assoc, append-nil}
use Rattle.std.proofs.lemmas.List.{take_all, drop_all}
use lib.Seq.{take_at, drop_at, length-take-le}
use Rattle.wasm_types.specs.Ranges.{range_of, with_range}
use Rattle.wasm_objects.specs.Lending.{left_over}

-- what a borrower left, where it has as many items as were lent
pub left_over_whole : (items left : List ℕ) → length left ≡ length items → left_over items left ≡ left
left_over_whole items left same =
    let nothing : drop (length left) items ≡ [] = drop_all (length left) items (omega arith) in
    ap (λ rest. take (length items) (left ++ rest)) nothing
    ∙ ap (take (length items)) (append-nil left) ∙ take_all (length items) left (omega arith)

-- the same of what a call left of items that it was lent
pub left_over_all : {A : Type 0} (n : ℕ) (items left : List A) → n ≡ length items → length left ≡ length items →
    take n (left ++ drop (length left) items) ≡ left
left_over_all n items left long same =
    let nothing : drop (length left) items ≡ [] = drop_all (length left) items (omega arith) in
    ap (λ rest. take n (left ++ rest)) nothing
    ∙ ap (take n) (append-nil left) ∙ take_all n left (omega (arith, long, same))

module _ {A : Type 0} (at : ℕ) (piece items : List A) (inside : at + length piece ≤ length items) where
  abbrev rest : List A
  rest = drop (at + length piece) items

  front : length (take at items) ≡ at
  front = length-take-le at items (omega arith)

  regrouped : with_range at piece items ≡ take at items ++ (piece ++ rest)
  regrouped = append_assoc (take at items) piece rest

  both : length (take at items ++ piece) ≡ at + length piece
  both = omega (arith, front, length-append (take at items) piece)

  -- no write changes the number of items
  pub length-with_range : length (with_range at piece items) ≡ length items
  length-with_range =
      omega (arith, both, length-append (take at items ++ piece) rest, length-drop (at + length piece) items)

  -- what was written is read there
  pub range_of-with_range : range_of at (length piece) (with_range at piece items) ≡ piece
  range_of-with_range =
      ap (λ l. take (length piece) (drop at l)) regrouped
      ∙ ap (take (length piece)) (drop_at (take at items) (piece ++ rest) at front)
      ∙ take_at piece rest (length piece) refl

  -- before it all is as it was
  pub take-with_range : take at (with_range at piece items) ≡ take at items
  take-with_range = ap (take at) regrouped ∙ take_at (take at items) (piece ++ rest) at front

  -- and past it
  pub drop-with_range : drop (at + length piece) (with_range at piece items) ≡ drop (at + length piece) items
  drop-with_range = drop_at (take at items ++ piece) rest (at + length piece) both

  -- what was written over at once is not seen
  pub with_range_again : (other : List A) → length other ≡ length piece →
      with_range at other (with_range at piece items) ≡ with_range at other items
  with_range_again other same =
      ap (λ n. take at (with_range at piece items) ++ other ++ drop (at + n) (with_range at piece items)) same
      ∙ ap (λ l. l ++ other ++ drop (at + length piece) (with_range at piece items)) take-with_range
      ∙ ap (λ l. take at items ++ other ++ l) drop-with_range
      ∙ ap (λ n. take at items ++ other ++ drop (at + n) items) (sym same)

-- a range that is there has its length
pub length-range_of : {A : Type 0} (at len : ℕ) (items : List A) → at + len ≤ length items → length (range_of at len items) ≡ len
length-range_of at len items inside =
    let behind : length (drop at items) ≡ length items - at = length-drop at items in
    length-take-le len (drop at items) (omega (arith, behind, inside))
