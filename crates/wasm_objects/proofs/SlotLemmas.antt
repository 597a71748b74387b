-- Places of a table: what they mean, which are open, and how many are settled, as they are written to.
use Rattle.std.proofs.Common.{◌≡◌, ℕ, zero, suc, ◌+◌, ◌<◌, ◌≤◌, List, [], ◌∷◌, ◌++◌, length, get_or, set, map, take, drop, replicate, Bool, true, false, refl, sym, ap, ◌∙◌, arith, length-take, drop-drop}
use Rattle.std.proofs.lemmas.List.{map-append, take-map, drop-map, length-map, take-append-drop}
use Rattle.std.proofs.lemmas.Bool.{true≢false}
use Rattle.wasm_types.specs.Ranges.{range_of, with_range}
use Rattle.wasm_types.specs.declared.plain.Cell.{Cell}
use Rattle.wasm_types.specs.declared.plain.Cell.TheVariants as c
use Rattle.wasm_objects.specs.Lazy.{cell_reference}
use Rattle.wasm_objects.specs.Slots.{reference_in, references_in, open_places, slot_of, cell_slot, is_open, settled, one_settled, count_settled, AreSettled}
use Rattle.wasm_objects.proofs.WriteLemmas.{length-with_range}
use Rattle.wasm_objects.specs.declared.raw.RawRef.{RawRef}
use Rattle.wasm_objects.specs.declared.raw.RawRef.TheVariants as r
use Rattle.wasm_objects.specs.declared.slots.Slot.{Slot}
use Rattle.wasm_objects.specs.declared.slots.Slot.TheVariants as s

module _ {X Y : Type 0} (f : X → Y) where
  pub map-range_of : (at len : ℕ) (xs : List X) → map f (range_of at len xs) ≡ range_of at len (map f xs)
  map-range_of at len xs = sym (take-map f len (drop at xs)) ∙ ap (take len) (sym (drop-map f at xs))

  pub map-with_range : (at : ℕ) (piece xs : List X) →
      map f (with_range at piece xs) ≡ with_range at (map f piece) (map f xs)
  map-with_range at piece xs =
      map-append f (take at xs ++ piece) (drop (at + length piece) xs)
      ∙ ap (λ l. l ++ map f (drop (at + length piece) xs)) (map-append f (take at xs) piece)
      ∙ ap (λ l. l ++ map f piece ++ map f (drop (at + length piece) xs)) (sym (take-map f at xs))
      ∙ ap (λ l. take at (map f xs) ++ map f piece ++ l) (sym (drop-map f (at + length piece) xs))
      ∙ ap (λ n. take at (map f xs) ++ map f piece ++ drop (at + n) (map f xs)) (sym (length-map piece f))

  pub map-replicate : (n : ℕ) (x : X) → map f (replicate n x) ≡ replicate n (f x)
  map-replicate zero x = refl
  map-replicate (suc n) x = ap (λ l. f x ∷ l) (map-replicate n x)

module _ {X : Type 0} (f : X → X) where
  -- a list whose first items are done, one item later
  pub one_more : (xs : List X) (i : ℕ) (d : X) → i < length xs →
      set (map f (take i xs) ++ drop i xs) i (f (get_or (map f (take i xs) ++ drop i xs) i d))
      ≡ map f (take (suc i) xs) ++ drop (suc i) xs
  one_more [] i d h = absurd (omega (arith, h))
  one_more (x ∷ xs) zero d h = refl
  one_more (x ∷ xs) (suc i) d h = ap (λ l. f x ∷ l) (one_more xs i d (omega (arith, h)))

  pub next : (xs : List X) (i : ℕ) (d : X) → i < length xs →
      set (map f (take i xs) ++ drop i xs) i (f (get_or (map f (take i xs) ++ drop i xs) i d))
      ≡ map f (take (i + 1) xs) ++ drop (i + 1) xs
  next xs i d h =
      let e : suc i ≡ i + 1 = omega arith in
      one_more xs i d h ∙ ap (λ k. map f (take k xs) ++ drop k xs) e

  -- the same of a list that a loop has come to
  pub next_of : (xs ys : List X) (i : ℕ) (d y : X) → ys ≡ map f (take i xs) ++ drop i xs → y ≡ f (get_or ys i d) →
      i < length xs → set ys i y ≡ map f (take (i + 1) xs) ++ drop (i + 1) xs
  next_of xs ys i d y is value h =
      ap (set ys i) value ∙ ap (λ l. set l i (f (get_or l i d))) is ∙ next xs i d h

-- a place that was filled in is settled, and means what it meant
pub slot_means : (init : RawRef) (fs : List ℕ) (x : RawRef) → reference_in init fs (slot_of x) ≡ x
slot_means init fs r.Null = refl
slot_means init fs (r.Func n) = refl
slot_means init fs (r.Extern n) = refl
slot_means init fs (r.I31 n) = refl

pub slot_closed : (x : RawRef) → is_open (slot_of x) ≡ false
slot_closed r.Null = refl
slot_closed (r.Func n) = refl
slot_closed (r.Extern n) = refl
slot_closed (r.I31 n) = refl

pub slots_mean : (init : RawRef) (fs : List ℕ) (xs : List RawRef) → references_in init fs (map slot_of xs) ≡ xs
slots_mean init fs [] = refl
slots_mean init fs (x ∷ xs) = λ i. slot_means init fs x i ∷ slots_mean init fs xs i

pub slots_closed : (xs : List RawRef) → open_places (map slot_of xs) ≡ replicate (length xs) false
slots_closed [] = refl
slots_closed (x ∷ xs) = λ i. slot_closed x i ∷ slots_closed xs i

one_closed : (b : Bool) → one_settled b ≡ 1 → b ≡ false
one_closed true e = absurd (omega (arith, e))
one_closed false e = refl

-- a cell of an image at its place
pub cell_means : (init : RawRef) (fs : List ℕ) (x : Cell) → reference_in init fs (cell_slot x) ≡ cell_reference init fs x
cell_means init fs c.Init = refl
cell_means init fs c.Null = refl
cell_means init fs (c.Func f) = refl

pub cells_mean : (init : RawRef) (fs : List ℕ) (xs : List Cell) →
    map (reference_in init fs) (map cell_slot xs) ≡ map (cell_reference init fs) xs
cells_mean init fs [] = refl
cells_mean init fs (x ∷ xs) = λ i. cell_means init fs x i ∷ cells_mean init fs xs i

pub cell_open : (x : Cell) → is_open (cell_slot x) ≡ true
cell_open c.Init = refl
cell_open c.Null = refl
cell_open (c.Func f) = refl

pub cells_open : (xs : List Cell) → map is_open (map cell_slot xs) ≡ replicate (length xs) true
cells_open [] = refl
cells_open (x ∷ xs) = λ i. cell_open x i ∷ cells_open xs i

-- how many are settled
pub count-append : (xs ys : List Slot) → count_settled (xs ++ ys) ≡ count_settled xs + count_settled ys
count-append [] ys = omega arith
count-append (x ∷ xs) ys = omega (arith, count-append xs ys)

pub one_at_most : (b : Bool) → one_settled b ≤ 1
one_at_most true = omega arith
one_at_most false = omega arith

pub count-most : (xs : List Slot) → count_settled xs ≤ length xs
count-most [] = omega arith
count-most (x ∷ xs) = omega (arith, count-most xs, one_at_most (is_open x))

-- a list in which none is open counts whole
pub count-closed : (xs : List Slot) → map is_open xs ≡ replicate (length xs) false → count_settled xs ≡ length xs
count-closed [] e = refl
count-closed (x ∷ xs) e =
    let front : is_open x ≡ false = ap (λ l. get_or l zero false) e in
    let rest : map is_open xs ≡ replicate (length xs) false = ap (drop 1) e in
    omega (arith, count-closed xs rest, ap one_settled front)

pub slots_settled : (xs : List RawRef) → AreSettled (map slot_of xs)
slots_settled xs =
    count-closed (map slot_of xs)
    (slots_closed xs ∙ ap (λ n. replicate n false) (sym (length-map xs slot_of)))

-- a write of settled places makes no fewer settled
pub count-with_range : (at : ℕ) (piece xs : List Slot) → map is_open piece ≡ replicate (length piece) false →
    at + length piece ≤ length xs → count_settled xs ≤ count_settled (with_range at piece xs)
count-with_range at piece xs closed within =
    let front : List Slot = take at xs in
    let behind : List Slot = drop at xs in
    let middle : List Slot = take (length piece) behind in
    let rest : List Slot = drop (length piece) behind in
    let last : List Slot = drop (at + length piece) xs in
    let same : rest ≡ last = drop-drop (length piece) at xs in
    let whole : count_settled (front ++ behind) ≡ count_settled xs = ap count_settled (take-append-drop at xs) in
    let parts : count_settled (middle ++ rest) ≡ count_settled behind =
    ap count_settled (take-append-drop (length piece) behind) in
    omega (
      arith,
      whole,
      parts,
      count-append front behind,
      count-append middle rest,
      ap count_settled same,
      count-most middle,
      length-take (length piece) behind,
      count-closed piece closed,
      count-append front piece,
      count-append (front ++ piece) last,
    )

-- where all are settled, none is open
pub closed-count : (xs : List Slot) → AreSettled xs → map is_open xs ≡ replicate (length xs) false
closed-count [] e = refl
closed-count (x ∷ xs) e =
    let rest : AreSettled xs = omega (arith, e, one_at_most (is_open x), count-most xs) in
    let front : one_settled (is_open x) ≡ 1 = omega (arith, e, rest) in
    λ i. one_closed (is_open x) front i ∷ closed-count xs rest i

-- and each is what it means
slot_stands : (init : RawRef) (fs : List ℕ) (x : Slot) → is_open x ≡ false → settled init fs x ≡ x
slot_stands init fs s.Null e = refl
slot_stands init fs (s.Func n) e = refl
slot_stands init fs (s.Extern n) e = refl
slot_stands init fs (s.I31 n) e = refl
slot_stands init fs s.AtInit e = absurd (true≢false e)
slot_stands init fs s.AtNull e = absurd (true≢false e)
slot_stands init fs (s.AtFunc f) e = absurd (true≢false e)

pub slots_stand : (init : RawRef) (fs : List ℕ) (xs : List Slot) → AreSettled xs → map (settled init fs) xs ≡ xs
slots_stand init fs [] e = refl
slots_stand init fs (x ∷ xs) e =
    let rest : AreSettled xs = omega (arith, e, one_at_most (is_open x), count-most xs) in
    let front : one_settled (is_open x) ≡ 1 = omega (arith, e, rest) in
    λ i. slot_stands init fs x (one_closed (is_open x) front) i ∷ slots_stand init fs xs rest i

-- one place that is written to
pub count-set : (xs : List Slot) (at : ℕ) (y d : Slot) → at < length xs →
    count_settled (set xs at y) + one_settled (is_open (get_or xs at d)) ≡ count_settled xs + one_settled (is_open y)
count-set [] at y d h = absurd (omega (arith, h))
count-set (x ∷ xs) zero y d h = omega arith
count-set (x ∷ xs) (suc at) y d h = omega (arith, count-set xs at y d (omega (arith, h)))

-- references that are written over a range, filled
module _ (at : ℕ) (piece : List RawRef) (xs : List Slot) where
  pub written_means : (init : RawRef) (fs : List ℕ) →
      references_in init fs (with_range at (map slot_of piece) xs) ≡ with_range at piece (references_in init fs xs)
  written_means init fs =
      map-with_range (reference_in init fs) at (map slot_of piece) xs
      ∙ ap (λ l. with_range at l (references_in init fs xs)) (slots_mean init fs piece)

  pub written_places :
      open_places (with_range at (map slot_of piece) xs) ≡ with_range at (replicate (length piece) false) (open_places xs)
  written_places =
      map-with_range is_open at (map slot_of piece) xs
      ∙ ap (λ l. with_range at l (open_places xs)) (slots_closed piece)

  pub written_length : at + length piece ≤ length xs → length (with_range at (map slot_of piece) xs) ≡ length xs
  written_length within =
      let same : length (map slot_of piece) ≡ length piece = length-map piece slot_of in
      length-with_range at (map slot_of piece) xs (omega (arith, within, same))

  -- it makes no fewer settled
  pub written_count : at + length piece ≤ length xs →
      count_settled xs ≤ count_settled (with_range at (map slot_of piece) xs)
  written_count within =
      let same : length (map slot_of piece) ≡ length piece = length-map piece slot_of in
      let closed : map is_open (map slot_of piece) ≡ replicate (length (map slot_of piece)) false =
      slots_closed piece ∙ ap (λ n. replicate n false) (sym same) in
      count-with_range at (map slot_of piece) xs closed (omega (arith, within, same))

  pub written_settled : at + length piece ≤ length xs → AreSettled xs → AreSettled (with_range at (map slot_of piece) xs)
  written_settled within e =
      omega (arith, e, written_count within, written_length within, count-most (with_range at (map slot_of piece) xs))
