-- A change of bytes or elements in place leaves the size.
use Rattle.std.proofs.Common.{◌≡◌, ℕ, ◌+◌, ◌≤◌, Bool, true, false, List, length, drop, refl, sym, subst, arith, length-drop}
use Rattle.std.proofs.lemmas.Bool.{leb-true}
use Rattle.std.proofs.lemmas.List.{length-take-le, length-set}
use Rattle.std.specs.Prelude.{◌&&◌}
use Rattle.wasm_types.specs.Memories.{Memory}
use Rattle.wasm_types.specs.Ranges.{is_range, range_of, with_range}
use Rattle.spec_machine.specs.Growth.{table_range}
use Rattle.wasm_objects.proofs.WriteLemmas.{length-with_range}
use Rattle.wasm_objects.specs.Tables.{Table}
use Rattle.wasm_objects.specs.declared.raw.RawRef.{RawRef}
use Rattle.store_state.specs.Objects.{takes_bytes, with_bytes, takes_element, with_element}
use Rattle.store_state.specs.Within.{IsSize, IsMemorySized, IsTableSized}

first_of : (a b : Bool) → (a && b) ≡ true → a ≡ true
first_of true b e = refl
first_of false b e = e

second_of : (a b : Bool) → (a && b) ≡ true → b ≡ true
second_of true b e = e
second_of false b e = absurd cc

module _ {A : Type 0} (at : ℕ) (items : List A) where
  pub same_length : (piece : List A) → is_range at (length piece) items ≡ true →
      length (with_range at piece items) ≡ length items
  same_length piece e = length-with_range at piece items (leb-true (at + length piece) (length items) e)

  pub same_by_copy : (from len : ℕ) (source : List A) → (is_range at len items && is_range from len source) ≡ true →
      length (with_range at (range_of from len source) items) ≡ length items
  same_by_copy from len source e =
      let inside : from + len ≤ length source =
      leb-true (from + len) (length source) (second_of (is_range at len items) (is_range from len source) e) in
      let taken : length (range_of from len source) ≡ len =
      length-take-le len (drop from source) (omega (arith, length-drop from source, inside)) in
      let fits : at + len ≤ length items =
      leb-true (at + len) (length items) (first_of (is_range at len items) (is_range from len source) e) in
      length-with_range at (range_of from len source) items (omega (arith, fits, taken))

pub sized_bytes : (at : ℕ) (piece : List ℕ) (m : Memory) → takes_bytes at piece m ≡ true → IsMemorySized m →
    IsMemorySized (with_bytes at piece m)
sized_bytes at piece m e s = subst (IsSize m.ty) (sym (same_length at m.bytes piece e)) s

pub sized_element : (at : ℕ) (r : RawRef) (t : Table) → takes_element at t ≡ true → IsTableSized t →
    IsTableSized (with_element at r t)
sized_element at r t e s = subst (λ n. n ≤ table_range) (sym (length-set t.elements at r)) s
