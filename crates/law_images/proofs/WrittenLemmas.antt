-- Tables and memories that begin with an image, and what a piece that leads writes to them.
use Rattle.std.proofs.Common.{◌≡◌, ℕ, ◌+◌, ◌-◌, ◌*◌, ◌≤◌, List, [], ◌∷◌, ◌++◌, length, map, replicate, true, Option, Some, None, refl, sym, ap, ◌∙◌, arith}
use Rattle.std.specs.Prelude.{slice_get, option_map}
use Rattle.std.proofs.lemmas.Bool.{le-leb}
use Rattle.std.proofs.lemmas.List.{map-append, length-map}
use Rattle.std.proofs.lemmas.Option.{none-some, same_Some, option_and_then_some}
use Rattle.wasm_types.specs.Memories.{memory, new_memory}
use Rattle.wasm_types.specs.MemoryTypes.{MemoryParts, page_size}
use Rattle.wasm_types.specs.Ranges.{is_range, with_range, padded, written}
use Rattle.wasm_types.specs.TableTypes.{TableParts}
use Rattle.wasm_types.specs.declared.plain.Cell.{Cell}
use Rattle.wasm_types.specs.declared.plain.Cell.TheVariants as cell
use Rattle.wasm_types.proofs.RangeLemmas.{padded_length, padded_written}
use Rattle.wasm_syntax.specs.declared.constants.ConstExpr.{ConstExpr}
use Rattle.wasm_syntax.specs.declared.constants.ConstExpr.TheVariants as c
use Rattle.wasm_syntax.specs.Operators.{unsigned}
use Rattle.wasm_module.specs.Images.{cell_of, cells_of, fixed_offset}
use Rattle.wasm_objects.proofs.SlotLemmas.{map-replicate, map-with_range}
use Rattle.wasm_objects.specs.Lazy.{found_function, cell_reference, lazy_table, imaged_memory}
use Rattle.wasm_objects.specs.Tables.{table, new_table}
use Rattle.wasm_objects.specs.declared.raw.RawRef.{RawRef}
use Rattle.wasm_objects.specs.declared.raw.RawRef.TheVariants as r
use Rattle.wasm_objects.specs.declared.raw.RawVal.{RawVal}
use Rattle.spec_execution.specs.Allocation.{reference_of, offset_of}
use Rattle.spec_execution.specs.Operands as on
use Rattle.law_images.proofs.LeadLemmas.{mapped}

module _ {X Y : Type 0} (f : X → Y) where
  map-padded : (size : ℕ) (blank : X) (items : List X) →
      map f (padded size blank items) ≡ padded size (f blank) (map f items)
  map-padded size blank items =
      map-append f items (replicate (size - length items) blank)
      ∙ ap (λ l. map f items ++ l) (map-replicate f (size - length items) blank)
      ∙ ap (λ k. map f items ++ replicate (size - k) (f blank)) (sym (length-map items f))

  map-written : (blank : X) (at : ℕ) (piece items : List X) →
      map f (written blank at piece items) ≡ written (f blank) at (map f piece) (map f items)
  map-written blank at [] items = refl
  map-written blank at (x ∷ piece) items =
      map-with_range f at (x ∷ piece) (padded at blank items)
      ∙ ap (with_range at (map f (x ∷ piece))) (map-padded at blank items)

-- ---- tables

pub empty_table : (ty : TableParts) (init : RawRef) (fs : List ℕ) → lazy_table ty init [] fs ≡ new_table ty init
empty_table ty init fs =
    let e : ty.minimum - 0 ≡ ty.minimum = omega arith in
    ap (λ k. table ty (replicate k init)) e

module _ (ty : TableParts) (init : RawRef) (fs : List ℕ) (at : ℕ) (cells image : List Cell)
    (fits : at + length cells ≤ ty.minimum) where
  abbrev references : List RawRef
  references = map (cell_reference init fs) cells

  pub table_written :
      lazy_table ty init (written cell.Init at cells image) fs
      ≡ table ty (with_range at references (lazy_table ty init image fs).elements)
  table_written =
      ap (λ l. table ty (padded ty.minimum init l)) (map-written (cell_reference init fs) cell.Init at cells image)
      ∙ ap (table ty) (padded_written at ty.minimum init references (map (cell_reference init fs) image)
      (omega (arith, fits, length-map cells (cell_reference init fs))))

  pub table_room : is_range at (length references) (lazy_table ty init image fs).elements ≡ true
  table_room =
      le-leb (at + length references) (length (lazy_table ty init image fs).elements)
      (omega (
        arith,
        fits,
        length-map cells (cell_reference init fs),
        padded_length ty.minimum init (map (cell_reference init fs) image),
      ))

-- ---- memories

pub empty_memory : (ty : MemoryParts) → imaged_memory ty [] ≡ new_memory ty
empty_memory ty =
    let e : ty.minimum * page_size ty - 0 ≡ ty.minimum * page_size ty = omega arith in
    ap (λ k. memory ty (replicate k 0)) e

module _ (ty : MemoryParts) (at : ℕ) (bytes image : List ℕ) (fits : at + length bytes ≤ ty.minimum * page_size ty) where
  pub memory_written :
      imaged_memory ty (written 0 at bytes image) ≡ memory ty (with_range at bytes (imaged_memory ty image).bytes)
  memory_written = ap (memory ty) (padded_written at (ty.minimum * page_size ty) 0 bytes image fits)

  pub memory_room : is_range at (length bytes) (imaged_memory ty image).bytes ≡ true
  memory_room =
      le-leb (at + length bytes) (length (imaged_memory ty image).bytes)
      (omega (arith, fits, padded_length (ty.minimum * page_size ty) 0 image))

-- ---- items and offsets, over the numbers of the functions and the values of the globals

module _ (fs : List ℕ) (gs : List RawVal) where
  found_is : (o : Option ℕ) → on.found r.Null o r.Func ≡ found_function o
  found_is None = refl
  found_is (Some n) = refl

  module _ (init : RawRef) where
    cell_is : (item : ConstExpr) (x : Cell) → cell_of item ≡ Some x →
        reference_of fs gs item ≡ cell_reference init fs x
    cell_is (c.RefFunc f) x e =
        found_is (slice_get fs f) ∙ ap (cell_reference init fs) (same_Some (cell.Func f) x e)
    cell_is (c.RefNull family) x e = ap (cell_reference init fs) (same_Some cell.Null x e)
    cell_is (c.I32 n) x e = absurd (none-some x e)
    cell_is (c.I64 n) x e = absurd (none-some x e)
    cell_is (c.F32 bits) x e = absurd (none-some x e)
    cell_is (c.F64 bits) x e = absurd (none-some x e)
    cell_is (c.V128 bits) x e = absurd (none-some x e)
    cell_is (c.GlobalGet g) x e = absurd (none-some x e)

    pub cells_are : (items : List ConstExpr) (cells : List Cell) → cells_of items ≡ Some cells →
        map (reference_of fs gs) items ≡ map (cell_reference init fs) cells
    cells_are [] cells e = ap (map (cell_reference init fs)) (same_Some [] cells e)
    cells_are (item ∷ items) cells e =
        option_and_then_some (λ first. option_map (λ more. first ∷ more) (cells_of items)) (cell_of item) cells e
        (λ first is rest.
        mapped (λ more. first ∷ more) (cells_of items) cells rest (λ more others whole.
        (λ j. cell_is item first is j ∷ cells_are items more others j) ∙ ap (map (cell_reference init fs)) whole))

  pub offset_is : (offset : ConstExpr) (at : ℕ) → fixed_offset offset ≡ Some at → offset_of fs gs offset ≡ at
  offset_is (c.I32 n) at e = same_Some (unsigned 32 n) at e
  offset_is (c.RefFunc f) at e = absurd (none-some at e)
  offset_is (c.RefNull family) at e = absurd (none-some at e)
  offset_is (c.I64 n) at e = absurd (none-some at e)
  offset_is (c.F32 bits) at e = absurd (none-some at e)
  offset_is (c.F64 bits) at e = absurd (none-some at e)
  offset_is (c.V128 bits) at e = absurd (none-some at e)
  offset_is (c.GlobalGet g) at e = absurd (none-some at e)
