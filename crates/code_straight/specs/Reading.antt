-- Bytes as code reads them. This project's own.
use Rattle.std.specs.Prelude.{ℕ, Bool, true, false, List, Option, Some, None}
use Rattle.std.specs.Int.{Width, from_le_bytes}
use Rattle.wasm_types.specs.Ranges.{is_range, range_of}
use Rattle.wasm_syntax.specs.declared.accesses.LoadOp.{LoadOp}
use Rattle.wasm_objects.specs.declared.raw.RawVal.{RawVal}
use Rattle.spec_execution.specs.Straight.{load_shape, bytes, loaded}

abbrev pub where_there : {A : Type 0} → Bool → A → Option A
where_there true a = Some a
where_there false a = None

-- the number of a width in the bytes from a place on, where they are there
abbrev pub read_at : Width → List ℕ → ℕ → Option ℕ
read_at w items at = where_there (is_range at (bytes w) items) (from_le_bytes w (range_of at (bytes w) items))

-- what a load gives of the bytes from a place on, where they are there
abbrev pub loaded_at : LoadOp → List ℕ → ℕ → Option RawVal
loaded_at op items at =
    where_there (is_range at (bytes (load_shape op).reads) items) (loaded op (range_of at (bytes (load_shape op).reads) items))
