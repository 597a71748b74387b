-- What is left over a list that was lent is as long as the list.
use Rattle.std.proofs.Common.{◌≡◌, List, ℕ, ◌++◌, length, drop, arith, length-append, length-take, length-drop}
use Rattle.wasm_objects.specs.Lending.{left_over}

pub left_over_length : (items left : List ℕ) → length (left_over items left) ≡ length items
left_over_length items left =
    omega (
      arith,
      length-take (length items) (left ++ drop (length left) items),
      length-append left (drop (length left) items),
      length-drop (length left) items,
    )
