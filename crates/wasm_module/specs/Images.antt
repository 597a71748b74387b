-- The images of a module: what the segments that lead leave in its tables and memories. This project's own.
-- A segment leads where all before it lead and where what it does is known from the module alone: it is never out of range,
-- and writes only constants into objects of the module's own. So a store may begin with the images in place of the segments.
use Rattle.std.specs.Prelude.{ℕ, suc, ◌+◌, ◌-◌, ◌*◌, Bool, nat_eq, nat_le, List, [], ◌∷◌, length, replicate, set, slice_get, Option, Some, None, option_map, option_and_then, if◌then◌else◌}
use Rattle.std.specs.List.{sum_by}
use Rattle.std.specs.Option.{option_map_or}
use Rattle.wasm_types.specs.FunctionParts.{heap_type}
use Rattle.wasm_types.specs.Matching.{heap_top, is_func}
use Rattle.wasm_types.specs.MemoryTypes.{MemoryParts, page_size}
use Rattle.wasm_types.specs.Ranges.{written}
use Rattle.wasm_types.specs.declared.plain.Cell.{Cell}
use Rattle.wasm_types.specs.declared.plain.Cell.TheVariants as cell
use Rattle.wasm_syntax.specs.Contexts.{imported, as_table, as_memory}
use Rattle.wasm_syntax.specs.Operators.{unsigned}
use Rattle.wasm_syntax.specs.declared.constants.ConstExpr.{ConstExpr}
use Rattle.wasm_syntax.specs.declared.constants.ConstExpr.TheVariants as c
use Rattle.wasm_syntax.specs.declared.declarations.ModuleDecl.{ModuleDecl}
use Rattle.wasm_syntax.specs.declared.declarations.TableDecl.{TableDecl}
use Rattle.wasm_syntax.specs.declared.segments.DataDecl.{DataDecl}
use Rattle.wasm_syntax.specs.declared.segments.DataMode.{DataMode}
use Rattle.wasm_syntax.specs.declared.segments.DataMode.TheVariants as data_mode
use Rattle.wasm_syntax.specs.declared.segments.ElemDecl.{ElemDecl}
use Rattle.wasm_syntax.specs.declared.segments.ElemMode.{ElemMode}
use Rattle.wasm_syntax.specs.declared.segments.ElemMode.TheVariants as elem_mode

-- ---- what is known from the module alone

-- what an item of a segment writes: a function by its number, or a null
abbrev pub cell_of : ConstExpr → Option Cell
cell_of (c.RefFunc f) = Some (cell.Func f)
cell_of (c.RefNull family) = Some cell.Null
cell_of _ = None

abbrev pub cells_of : List ConstExpr → Option (List Cell)
cells_of [] = Some []
cells_of (item ∷ items) = option_and_then (λ first. option_map (λ cells. first ∷ cells) (cells_of items)) (cell_of item)

-- an offset
abbrev pub fixed_offset : ConstExpr → Option ℕ
fixed_offset (c.I32 n) = Some (unsigned 32 n)
fixed_offset _ = None

-- the number among the defined items of an index behind so many imports
abbrev pub defined_number : ℕ → ℕ → Option ℕ
defined_number imports index = if nat_le imports index then Some (index - imports) else None

-- ---- the images: of each table or memory the front, up to the last place that was written to

-- a piece is written to the image of this number, within a size
abbrev pub image_written : {A : Type 0} → A → List (List A) → ℕ → ℕ → ℕ → List A → Option (List (List A))
image_written blank images number size at piece =
    if nat_le (at + length piece) size
    then option_map (λ image. set images number (written blank at piece image)) (slice_get images number)
    else None

-- the images, where they are no longer than so much together
abbrev pub within : {A : Type 0} → ℕ → List (List A) → Option (List (List A))
within most images = if nat_le (sum_by length images) most then Some images else None

-- how many items lead, and what they leave: each is taken over what those before it left
abbrev pub one_more : {State : Type 0} → ℕ × State → ℕ × State
one_more led = (suc led.0, led.1)

abbrev pub led_by : {State Item : Type 0} → (State → Item → Option State) → State → List Item → ℕ × State
led_by step before [] = (0, before)
led_by step before (item ∷ items) =
    option_map_or (λ after. one_more (led_by step after items)) (step before item) (0, before)

-- ---- element segments

-- the most cells that the images of all tables have together
abbrev pub most_cells : ℕ
most_cells = 1000000

abbrev pub holds_functions : TableDecl → Bool
holds_functions t = is_func (heap_top (heap_type t.ty.element))

-- a piece at an offset is written to a table's image
abbrev pub table_written : TableDecl → ℕ → List (List Cell) → ℕ → List Cell → Option (List (List Cell))
table_written t number images at cells =
    if holds_functions t
    then option_and_then (within most_cells) (image_written cell.Init images number t.ty.minimum at cells)
    else None

-- an active segment
abbrev pub led_cells : ModuleDecl → List (List Cell) → ℕ → ConstExpr → List ConstExpr → Option (List (List Cell))
led_cells d images table offset items =
    option_and_then (λ number. option_and_then (λ t. option_and_then (λ at. option_and_then (λ cells.
    table_written t number images at cells)
    (cells_of items)) (fixed_offset offset)) (slice_get d.tables number))
    (defined_number (length (imported as_table d)) table)

-- the images behind a segment, where it leads
abbrev pub led_element : ModuleDecl → List (List Cell) → ElemMode → List ConstExpr → Option (List (List Cell))
led_element d images elem_mode.Passive items = Some images
led_element d images elem_mode.Declared items = Some images
led_element d images (elem_mode.Active table offset) items = led_cells d images table offset items

abbrev pub led_elements : ModuleDecl → ℕ × List (List Cell)
led_elements d =
    led_by (λ images (e : ElemDecl). led_element d images e.mode e.items) (replicate (length d.tables) []) d.elements

abbrev pub leading_elements : ModuleDecl → ℕ
leading_elements d = (led_elements d).0

abbrev pub table_images : ModuleDecl → List (List Cell)
table_images d = (led_elements d).1

-- ---- data segments, where all element segments lead

-- the most bytes that the images of all memories have together
abbrev pub most_bytes : ℕ
most_bytes = 16777216

abbrev pub memory_written : MemoryParts → ℕ → List (List ℕ) → ℕ → List ℕ → Option (List (List ℕ))
memory_written ty number images at bytes =
    option_and_then (within most_bytes) (image_written 0 images number (ty.minimum * page_size ty) at bytes)

abbrev pub led_bytes : ModuleDecl → List (List ℕ) → ℕ → ConstExpr → List ℕ → Option (List (List ℕ))
led_bytes d images memory offset bytes =
    option_and_then (λ number. option_and_then (λ ty. option_and_then (λ at.
    memory_written ty number images at bytes) (fixed_offset offset)) (slice_get d.memories number))
    (defined_number (length (imported as_memory d)) memory)

abbrev pub led_data : ModuleDecl → List (List ℕ) → DataMode → List ℕ → Option (List (List ℕ))
led_data d images data_mode.Passive bytes = Some images
led_data d images (data_mode.Active memory offset) bytes = led_bytes d images memory offset bytes

abbrev pub none_written : ModuleDecl → List (List ℕ)
none_written d = replicate (length d.memories) []

-- what they come to by themselves
abbrev pub led_alone : ModuleDecl → ℕ × List (List ℕ)
led_alone d = led_by (λ images (e : DataDecl). led_data d images e.mode e.bytes) (none_written d) d.datas

abbrev pub led_datas : ModuleDecl → ℕ × List (List ℕ)
led_datas d = if nat_eq (leading_elements d) (length d.elements) then led_alone d else (0, none_written d)

abbrev pub leading_datas : ModuleDecl → ℕ
leading_datas d = (led_datas d).0

abbrev pub memory_images : ModuleDecl → List (List ℕ)
memory_images d = (led_datas d).1
