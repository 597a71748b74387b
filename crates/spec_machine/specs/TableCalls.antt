-- What a host does with tables: the calls of the wasmtime crate. An element is given as a reference, or as a value that is
-- none, which fits no table.
-- WebAssembly core specification, "Execution, modules, allocation, tables", "growing tables"; "Execution, table
-- instructions" for ranges and copies
use Rattle.std.specs.Prelude.{ℕ, Bool, true, false, ◌&&◌, List, [], ◌∷◌, length, set, replicate, nat_lt, slice_get, if◌then◌else◌, Option, Some, None, option_map, Result, Ok, Err}
use Rattle.std.specs.Option.{ok_or}
use Rattle.wasm_types.specs.FunctionParts.{heap_type, ref_is_of}
use Rattle.wasm_types.specs.Matching.{heap_top, ref_matches}
use Rattle.wasm_types.specs.Ranges.{is_range, range_of, with_range}
use Rattle.wasm_types.specs.TableTypes.{TableParts}
use Rattle.wasm_types.specs.declared.value_types.RefType.{RefType}
use Rattle.wasm_values.specs.Handles.{table_of, table_store, table_index}
use Rattle.wasm_values.specs.declared.handles.Table.{Table as Handle}
use Rattle.wasm_values.specs.declared.references.Ref.{Ref}
use Rattle.wasm_values.specs.declared.refusals.Refusal.{Refusal}
use Rattle.wasm_values.specs.declared.refusals.Refusal.TheVariants.{WrongStore, WrongEngine, TypeMismatch, Trap}
use Rattle.wasm_values.specs.declared.refusals.Trap.TheVariants.{TableOutOfBounds}
use Rattle.wasm_objects.specs.Growth.{longer_table}
use Rattle.wasm_objects.specs.Tables.{Table, table, new_table}
use Rattle.wasm_objects.specs.declared.raw.RawRef.{RawRef}
use Rattle.wasm_objects.specs.declared.raw.RawRef.TheVariants as raw
use Rattle.spec_machine.specs.Changes.{set_table, append_tables}
use Rattle.spec_machine.specs.Growth.{Plan, plan, table_range, table_growing}
use Rattle.spec_machine.specs.Machine.{Machine}
use Rattle.spec_machine.specs.Steps.{◌>>=◌, unless}
use Rattle.spec_machine.specs.Values.{is_id, owns_ref, raw_ref, ref_at, ref_fits}

-- the table of a handle, and the store in which it has other elements
abbrev pub table_at : Machine → Handle → Result Table Refusal
table_at m h =
    if is_id (table_store h) m.id then ok_or (slice_get m.tables (table_index h)) WrongStore else Err WrongStore

abbrev pub with_table : Machine → Handle → Table → Machine
with_table m h x = set_table m (table_index h) x

abbrev pub with_elements : Machine → Handle → Table → List RawRef → Machine
with_elements m h x elements = with_table m h (table x.ty elements)

-- what is given as an element is of this store, is a reference that fits, and as a table holds it
abbrev pub owns_given : Machine → Option Ref → Bool
owns_given m None = true
owns_given m (Some r) = owns_ref m r

abbrev pub given_fits : Machine → Option Ref → RefType → Bool
given_fits m None ty = false
given_fits m (Some r) ty = ref_fits m r ty

abbrev pub raw_given : Option Ref → RawRef
raw_given None = raw.Null
raw_given (Some r) = raw_ref r

-- a new table at the end of the store, each element the given one
abbrev pub table_new : Machine → TableParts → Option Ref → Result (Plan Handle) Refusal
table_new m ty init = do
  _ ← unless WrongStore (owns_given m init)
  _ ← unless WrongEngine (ref_is_of m.engine.number ty.element)
  _ ← unless TypeMismatch (given_fits m init ty.element)
  Ok (plan table_range (table_growing ty 0 ty.minimum)
      (append_tables m (new_table ty (raw_given init) ∷ [])) (table_of m.id (length m.tables)))

abbrev pub table_ty : Machine → Handle → Result TableParts Refusal
table_ty m h = do
  x ← table_at m h
  Ok x.ty

abbrev pub table_size : Machine → Handle → Result ℕ Refusal
table_size m h = do
  x ← table_at m h
  Ok (length x.elements)

-- an element; past the end there is none
abbrev pub element_of : Machine → Table → RawRef → Ref
element_of m x r = ref_at m.id (heap_top (heap_type x.ty.element)) r

abbrev pub table_get : Machine → Handle → ℕ → Result (Option Ref) Refusal
table_get m h at = do
  x ← table_at m h
  Ok (option_map (element_of m x) (slice_get x.elements at))

abbrev pub table_set : Machine → Handle → ℕ → Option Ref → Result Machine Refusal
table_set m h at val = do
  x ← table_at m h
  _ ← unless WrongStore (owns_given m val)
  _ ← unless TypeMismatch (given_fits m val x.ty.element)
  _ ← unless (Trap TableOutOfBounds) (nat_lt at (length x.elements))
  Ok (with_elements m h x (set x.elements at (raw_given val)))

-- the range of this length becomes the one reference
abbrev pub table_fill : Machine → Handle → ℕ → Option Ref → ℕ → Result Machine Refusal
table_fill m h at val len = do
  x ← table_at m h
  _ ← unless WrongStore (owns_given m val)
  _ ← unless TypeMismatch (given_fits m val x.ty.element)
  _ ← unless (Trap TableOutOfBounds) (is_range at len x.elements)
  Ok (with_elements m h x (with_range at (replicate len (raw_given val)) x.elements))

-- so many more elements, each the given one; the size before is answered
abbrev pub table_grow : Machine → Handle → ℕ → Option Ref → Result (Plan ℕ) Refusal
table_grow m h delta init = do
  x ← table_at m h
  _ ← unless WrongStore (owns_given m init)
  _ ← unless TypeMismatch (given_fits m init x.ty.element)
  Ok (plan table_range (table_growing x.ty (length x.elements) delta)
      (with_table m h (longer_table x delta (raw_given init))) (length x.elements))

-- the range of one table becomes a range of another, or of the same one, as it was
abbrev pub table_copy : Machine → Handle → ℕ → Handle → ℕ → ℕ → Result Machine Refusal
table_copy m dst dst_at src src_at len = do
  d ← table_at m dst
  s ← table_at m src
  _ ← unless (Trap TableOutOfBounds) (is_range dst_at len d.elements && is_range src_at len s.elements)
  _ ← unless TypeMismatch (ref_matches s.ty.element d.ty.element)
  Ok (with_elements m dst d (with_range dst_at (range_of src_at len s.elements) d.elements))
