-- Tables whose places are filled as they are looked up, and memories that begin with an image. This project's own.
use Rattle.std.specs.Prelude.{ℕ, ◌*◌, List, map, Option, Some, None, Bool, false, suc, slice_get, if◌then◌else◌}
use Rattle.wasm_types.specs.Ranges.{padded}
use Rattle.wasm_types.specs.TableTypes.{TableParts}
use Rattle.wasm_types.specs.MemoryTypes.{MemoryParts, page_size}
use Rattle.wasm_types.specs.Memories.{Memory, memory}
use Rattle.wasm_types.specs.declared.plain.Cell.{Cell}
use Rattle.wasm_types.specs.declared.plain.Cell.TheVariants.{Init, Null, Func}
use Rattle.wasm_objects.specs.Tables.{Table, table}
use Rattle.wasm_objects.specs.declared.raw.RawRef.{RawRef}
use Rattle.wasm_objects.specs.declared.raw.RawRef.TheVariants as r

-- a function of a module by its number there, where the numbers of its functions in the store are these; null where it has
-- no such function
abbrev pub found_function : Option ℕ → RawRef
found_function None = r.Null
found_function (Some n) = r.Func n

-- what a cell of an image means in a table that begins with one reference in each place
abbrev pub cell_reference : RawRef → List ℕ → Cell → RawRef
cell_reference init functions Init = init
cell_reference init functions Null = r.Null
cell_reference init functions (Func f) = found_function (slice_get functions f)

-- a new table that begins with an image
abbrev pub lazy_table : TableParts → RawRef → List Cell → List ℕ → Table
lazy_table ty init image functions =
    table ty (padded ty.minimum init (map (cell_reference init functions) image))

-- a new memory that begins with an image, and is zero behind it
abbrev pub imaged_memory : MemoryParts → List ℕ → Memory
imaged_memory ty image = memory ty (padded (ty.minimum * page_size ty) 0 image)

abbrev pub is_so : Option Bool → Bool
is_so None = false
is_so (Some b) = b

-- a place is there and is unfilled
abbrev pub is_unfilled : List Bool → ℕ → Bool
is_unfilled places at = is_so (slice_get places at)

-- how many look-ups filled a place, behind one more
abbrev pub filled_behind : ℕ → List Bool → ℕ → ℕ
filled_behind filled places at = if is_unfilled places at then suc filled else filled
