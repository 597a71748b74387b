-- Lists of objects, seen as lists of memories or of tables: what a look-up, a change of one and a new one at the end are.
use Rattle.std.proofs.Common.{◌≡◌, ℕ, ◌<◌, ◌≤◌, List, ◌++◌, length, get_or, set, map, Some, None, refl, ap, ◌∙◌}
use Rattle.std.specs.Prelude.{slice_get, option_map}
use Rattle.std.proofs.lemmas.Option.{slice_get-map, slice_get_past, slice_get_read}
use lib.Seq.{map-set, map-set_same}
use mathlib.Core.List.{map-append}
use Rattle.wasm_objects.specs.Growth.{MemoryObjectParts, TableObjectParts}
use Rattle.wasm_objects.specs.Objects.{memories_of, tables_of}

module _ {X Y : Type 0} (f : X → Y) (xs : List X) where
  -- the object that an index reads is seen at its place
  seen_at : (i : ℕ) (x : X) → i < length xs → x ≡ get_or xs i x → slice_get (map f xs) i ≡ Some (f x)
  seen_at i x within is = slice_get-map f xs i ∙ ap (option_map f) (slice_get_read xs (length xs) i x refl within is)

  seen_past : (i : ℕ) → length xs ≤ i → slice_get (map f xs) i ≡ None
  seen_past i past = slice_get-map f xs i ∙ ap (option_map f) (slice_get_past xs i past)

pub memory_at : (xs : List MemoryObjectParts) (i : ℕ) (x : MemoryObjectParts) → i < length xs → x ≡ get_or xs i x → slice_get (memories_of xs) i ≡ Some x.memory
memory_at = seen_at (λ h. h.memory)

pub memory_past : (xs : List MemoryObjectParts) (i : ℕ) → length xs ≤ i → slice_get (memories_of xs) i ≡ None
memory_past = seen_past (λ h. h.memory)

pub memories_of-set : (xs : List MemoryObjectParts) (i : ℕ) (x : MemoryObjectParts) → memories_of (set xs i x) ≡ set (memories_of xs) i x.memory
memories_of-set = map-set (λ h. h.memory)

pub memories_of-append : (xs ys : List MemoryObjectParts) → memories_of (xs ++ ys) ≡ memories_of xs ++ memories_of ys
memories_of-append = map-append (λ h. h.memory)

-- room that was made, or lent, is not seen
pub memories_of-set_same : (xs : List MemoryObjectParts) (i : ℕ) (x d : MemoryObjectParts) → x.memory ≡ (get_or xs i d).memory → memories_of (set xs i x) ≡ memories_of xs
memories_of-set_same = map-set_same (λ h. h.memory)

pub table_at : (xs : List TableObjectParts) (i : ℕ) (x : TableObjectParts) → i < length xs → x ≡ get_or xs i x → slice_get (tables_of xs) i ≡ Some x.table
table_at = seen_at (λ h. h.table)

pub table_past : (xs : List TableObjectParts) (i : ℕ) → length xs ≤ i → slice_get (tables_of xs) i ≡ None
table_past = seen_past (λ h. h.table)

pub tables_of-set : (xs : List TableObjectParts) (i : ℕ) (x : TableObjectParts) → tables_of (set xs i x) ≡ set (tables_of xs) i x.table
tables_of-set = map-set (λ h. h.table)

pub tables_of-append : (xs ys : List TableObjectParts) → tables_of (xs ++ ys) ≡ tables_of xs ++ tables_of ys
tables_of-append = map-append (λ h. h.table)

pub tables_of-set_same : (xs : List TableObjectParts) (i : ℕ) (x d : TableObjectParts) → x.table ≡ (get_or xs i d).table → tables_of (set xs i x) ≡ tables_of xs
tables_of-set_same = map-set_same (λ h. h.table)
