-- What calls on tables give after others.
use Rattle.std.proofs.Common.{◌≡◌, ℕ, ◌+◌, ◌≤◌, true, List, ◌++◌, length, set, replicate, slice_get, Option, Some, option_map, Result, Ok, sym, ap, ◌∙◌, subst, arith}
use Rattle.std.proofs.lemmas.Bool.{leb-true, ltb-true}
use Rattle.std.proofs.lemmas.List.{length-replicate}
use Rattle.wasm_types.specs.EqualityLaws.{both}
use Rattle.wasm_types.specs.FunctionParts.{heap_type}
use Rattle.wasm_types.specs.Matching.{heap_top}
use Rattle.wasm_types.specs.Ranges.{is_range, range_of, with_range}
use Rattle.wasm_types.specs.declared.plain.HeapTopType.{HeapTopType}
use Rattle.wasm_types.proofs.MatchingLemmas.{top_kept}
use Rattle.wasm_values.specs.Handles.{table_store, table_index}
use Rattle.wasm_values.specs.declared.handles.Table.{Table as Handle}
use Rattle.wasm_values.specs.declared.references.Ref.{Ref}
use Rattle.wasm_values.specs.declared.refusals.Refusal.{Refusal}
use Rattle.wasm_values.specs.declared.refusals.Refusal.TheVariants.{WrongStore}
use Rattle.wasm_objects.specs.Growth.{longer_table}
use Rattle.wasm_objects.specs.Tables.{Table, table}
use Rattle.wasm_objects.specs.declared.raw.RawRef.{RawRef}
use Rattle.spec_machine.specs.Growth.{Plan}
use Rattle.spec_machine.specs.Machine.{Machine}
use Rattle.spec_machine.specs.Steps.{◌>>=◌}
use Rattle.spec_machine.specs.TableCalls.{table_at, with_table, with_elements, element_of, table_size, table_get}
use Rattle.spec_machine.specs.Values.{is_id, ref_at, raw_ref, owns_ref, ref_fits}
use Rattle.law_store.specs.Laws.{IsOutside, SetElementGives, SetKeepsOthers, FilledRangeGives, FillKeepsOthers, CopyGivesSource, CopyKeepsOthers, GrownTableSize, GrownTableKeeps, GrownTableGives}
use Rattle.law_store.proofs.Places.{ref_back}
use Rattle.law_store.proofs.ReadLemmas.{look_up, set_there}
use Rattle.law_store.proofs.Slices.{slice_append_left, slice_append_right, slice_replicate, slice_set_same, slice_set_other, slice_range_of, with_at, with_outside}
use Rattle.law_store.proofs.Tables.{TableSet, table_set_passed, TableFill, table_fill_passed, TableCopy, table_copy_passed, length_range_of, TableGrow, table_grow_passed, longer_length}

-- the element in a place, as a host handles it
abbrev shown : Machine → Table → Option RawRef → Result (Option Ref) Refusal
shown m x o = Ok (option_map (element_of m x) o)

module _ (m : Machine) (h : Handle) (x : Table) (here : is_id (table_store h) m.id ≡ true)
    (found : slice_get m.tables (table_index h) ≡ Some x) where
  table_there : table_at m h ≡ Ok x
  table_there = look_up (is_id (table_store h) m.id) (slice_get m.tables (table_index h)) WrongStore x here found

  get_is : (i : ℕ) → table_get m h i ≡ shown m x (slice_get x.elements i)
  get_is i = ap (λ (r : Result Table Refusal). r >>= (λ t. shown m t (slice_get t.elements i))) table_there

  size_is : table_size m h ≡ Ok (length x.elements)
  size_is = ap (λ (r : Result Table Refusal). r >>= (λ t. Ok (length t.elements))) table_there

  module _ (y : Table) where
    table_put : table_at (with_table m h y) h ≡ Ok y
    table_put = look_up (is_id (table_store h) m.id)
        (slice_get (set m.tables (table_index h) y) (table_index h)) WrongStore y here
        (set_there m.tables (table_index h) x y found)

    put_get_is : (i : ℕ) → table_get (with_table m h y) h i ≡ shown m y (slice_get y.elements i)
    put_get_is i = ap (λ (r : Result Table Refusal). r >>= (λ t. shown m t (slice_get t.elements i))) table_put

    put_size_is : table_size (with_table m h y) h ≡ Ok (length y.elements)
    put_size_is = ap (λ (r : Result Table Refusal). r >>= (λ t. Ok (length t.elements))) table_put

  module _ (elements : List RawRef) where
    -- a place where the elements are as they were
    keeps_place : (i : ℕ) → slice_get elements i ≡ slice_get x.elements i →
        table_get (with_elements m h x elements) h i ≡ table_get m h i
    keeps_place i e = put_get_is (table x.ty elements) i ∙ ap (shown m x) e ∙ sym (get_is i)

    -- a place where a reference was put that fits
    gives_place : (i : ℕ) (r : Ref) → owns_ref m r ≡ true → ref_fits m r x.ty.element ≡ true →
        slice_get elements i ≡ Some (raw_ref r) → table_get (with_elements m h x elements) h i ≡ Ok (Some r)
    gives_place i r o f e = put_get_is (table x.ty elements) i ∙ ap (shown m x) e
        ∙ ap (λ q. Ok (Some q)) (ref_back m r x.ty.element o f)

pub set_element_gives : SetElementGives
set_element_gives m after h at r e =
    let p : TableSet m h at (Some r) after = table_set_passed m after h at (Some r) e in
    let x : Table = p.object in
    subst (λ a. table_get a h at ≡ Ok (Some r)) p.is
    (gives_place m h x p.here p.found (set x.elements at (raw_ref r)) at r p.one p.two
    (slice_set_same x.elements at (raw_ref r) (ltb-true at (length x.elements) p.three)))

pub set_keeps_others : SetKeepsOthers
set_keeps_others m after h at i r e other =
    let p : TableSet m h at (Some r) after = table_set_passed m after h at (Some r) e in
    let x : Table = p.object in
    subst (λ a. table_get a h i ≡ table_get m h i) p.is
    (keeps_place m h x p.here p.found (set x.elements at (raw_ref r)) i
    (slice_set_other x.elements at i (raw_ref r) other))

-- a range that fits by its length
fits_by : {A : Type 0} (at len : ℕ) (piece xs : List A) → length piece ≡ len → is_range at len xs ≡ true →
    at + length piece ≤ length xs
fits_by at len piece xs many h = let fits : at + len ≤ length xs = leb-true _ _ h in omega (arith, many, fits)

pub filled_range_gives : FilledRangeGives
filled_range_gives m after h at len k r e l =
    let p : TableFill m h at (Some r) len after = table_fill_passed m after h at (Some r) len e in
    let x : Table = p.object in
    let piece : List RawRef = replicate len (raw_ref r) in
    let many : length piece ≡ len = length-replicate len (raw_ref r) in
    let place : slice_get (with_range at piece x.elements) (at + k) ≡ Some (raw_ref r) =
    with_at at piece x.elements (fits_by at len piece x.elements many p.three) k (omega (arith, l, many))
    ∙ slice_replicate len (raw_ref r) k l in
    subst (λ a. table_get a h (at + k) ≡ Ok (Some r)) p.is
    (gives_place m h x p.here p.found (with_range at piece x.elements) (at + k) r p.one p.two place)

-- outside of a range by its length
outside_by : (at len n i : ℕ) → n ≡ len → IsOutside at len i → IsOutside at n i
outside_by at len n i e h = subst (λ k. IsOutside at k i) (sym e) h

pub fill_keeps_others : FillKeepsOthers
fill_keeps_others m after h at len i r e outside =
    let p : TableFill m h at (Some r) len after = table_fill_passed m after h at (Some r) len e in
    let x : Table = p.object in
    let piece : List RawRef = replicate len (raw_ref r) in
    let many : length piece ≡ len = length-replicate len (raw_ref r) in
    subst (λ a. table_get a h i ≡ table_get m h i) p.is
    (keeps_place m h x p.here p.found (with_range at piece x.elements) i
    (with_outside at piece x.elements (fits_by at len piece x.elements many p.three) i
    (outside_by at len (length piece) i many outside)))

pub copy_gives_source : CopyGivesSource
copy_gives_source m after dst dst_at src src_at len k e l =
    let p : TableCopy m dst dst_at src src_at len after = table_copy_passed m dst dst_at src src_at len after e in
    let d : Table = p.to in
    let s : Table = p.from in
    let piece : List RawRef = range_of src_at len s.elements in
    let many : length piece ≡ len = length_range_of src_at len s.elements p.from_range in
    let place : slice_get (with_range dst_at piece d.elements) (dst_at + k) ≡ slice_get s.elements (src_at + k) =
    with_at dst_at piece d.elements (fits_by dst_at len piece d.elements many p.to_range) k (omega (arith, l, many))
    ∙ slice_range_of src_at len s.elements k l in
    let greatest : heap_top (heap_type s.ty.element) ≡ heap_top (heap_type d.ty.element) =
    top_kept (heap_type s.ty.element) (heap_type d.ty.element) (both _ _ p.matches).0 in
    subst (λ a. table_get a dst (dst_at + k) ≡ table_get m src (src_at + k)) p.is
    (put_get_is m dst d p.to_here p.to_found (table d.ty (with_range dst_at piece d.elements)) (dst_at + k)
    ∙ ap (shown m d) place
    ∙ ap (λ (g : HeapTopType). Ok (option_map (ref_at m.id g) (slice_get s.elements (src_at + k)))) (sym greatest)
    ∙ sym (get_is m src s p.from_here p.from_found (src_at + k)))

pub copy_keeps_others : CopyKeepsOthers
copy_keeps_others m after dst dst_at src src_at len i e outside =
    let p : TableCopy m dst dst_at src src_at len after = table_copy_passed m dst dst_at src src_at len after e in
    let d : Table = p.to in
    let piece : List RawRef = range_of src_at len p.from.elements in
    let many : length piece ≡ len = length_range_of src_at len p.from.elements p.from_range in
    subst (λ a. table_get a dst i ≡ table_get m dst i) p.is
    (keeps_place m dst d p.to_here p.to_found (with_range dst_at piece d.elements) i
    (with_outside dst_at piece d.elements (fits_by dst_at len piece d.elements many p.to_range) i
    (outside_by dst_at len (length piece) i many outside)))

pub grown_table_size : GrownTableSize
grown_table_size m h delta r p e =
    let q : TableGrow m h delta (Some r) p = table_grow_passed m h delta (Some r) p e in
    let x : Table = q.object in
    subst (λ (d : Plan ℕ). (table_size m h ≡ Ok d.gives) × (table_size d.after h ≡ Ok (d.gives + delta))) q.is (
      size_is m h x q.here q.found,
      put_size_is m h x q.here q.found (longer_table x delta (raw_ref r))
          ∙ ap Ok (longer_length x delta (raw_ref r)),
    )

pub grown_table_keeps : GrownTableKeeps
grown_table_keeps m h delta i r p e l =
    let q : TableGrow m h delta (Some r) p = table_grow_passed m h delta (Some r) p e in
    let x : Table = q.object in
    let size : length x.elements ≡ p.gives = ap (λ (d : Plan ℕ). d.gives) q.is in
    subst (λ (d : Plan ℕ). table_get d.after h i ≡ table_get m h i) q.is
    (keeps_place m h x q.here q.found (x.elements ++ replicate delta (raw_ref r)) i
    (slice_append_left x.elements (replicate delta (raw_ref r)) i (omega (arith, l, size))))

pub grown_table_gives : GrownTableGives
grown_table_gives m h delta k r p e l =
    let q : TableGrow m h delta (Some r) p = table_grow_passed m h delta (Some r) p e in
    let x : Table = q.object in
    subst (λ (d : Plan ℕ). table_get d.after h (d.gives + k) ≡ Ok (Some r)) q.is
    (gives_place m h x q.here q.found (x.elements ++ replicate delta (raw_ref r)) (length x.elements + k) r q.one q.two
    (slice_append_right x.elements (replicate delta (raw_ref r)) k ∙ slice_replicate delta (raw_ref r) k l))
