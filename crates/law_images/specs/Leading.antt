-- The store in which a new instance begins with the images of its module in place of the segments that lead. This project's
-- own: the instance is made as the core specification has it, and all of what its segments do is done in the end.
use Rattle.std.specs.Prelude.{◌≡◌, ℕ, List, [], ◌∷◌, ◌++◌, map, length, take, drop}
use Rattle.wasm_syntax.specs.Contexts.{imported, as_table, as_memory}
use Rattle.wasm_syntax.specs.declared.declarations.ModuleDecl.{ModuleDecl}
use Rattle.wasm_syntax.specs.declared.declarations.TableDecl.{TableDecl}
use Rattle.wasm_syntax.specs.declared.segments.DataDecl.{DataDecl}
use Rattle.wasm_syntax.specs.declared.segments.DataMode.{DataMode}
use Rattle.wasm_syntax.specs.declared.segments.DataMode.TheVariants as data_mode
use Rattle.wasm_syntax.specs.declared.segments.ElemDecl.{ElemDecl}
use Rattle.wasm_syntax.specs.declared.segments.ElemMode.{ElemMode}
use Rattle.wasm_syntax.specs.declared.segments.ElemMode.TheVariants as elem_mode
use Rattle.wasm_module.specs.Images.{leading_elements, table_images, leading_datas, memory_images}
use Rattle.wasm_types.specs.Memories.{Memory}
use Rattle.wasm_types.specs.declared.plain.Cell.{Cell}
use Rattle.wasm_values.specs.Externals.{extern_table, extern_memory}
use Rattle.wasm_values.specs.Handles.{table_index, memory_index}
use Rattle.wasm_values.specs.declared.externals.Extern.{Extern}
use Rattle.wasm_objects.specs.Lazy.{lazy_table, imaged_memory}
use Rattle.wasm_objects.specs.Tables.{Table}
use Rattle.wasm_objects.specs.declared.raw.RawRef.{RawRef}
use Rattle.wasm_objects.specs.declared.raw.RawVal.{RawVal}
use Rattle.spec_machine.specs.Changes.{append_memories, append_tables, append_globals, append_tags, append_functions, append_instance}
use Rattle.spec_machine.specs.Machine.{Machine, InstanceParts}
use Rattle.spec_execution.specs.Allocation.{reference_of, imported_numbers, imported_values, function_numbers, global_values, new_globals, new_tags, new_functions, new_instance}
use Rattle.spec_execution.specs.Segments.{Taken, take_elements, take_datas, make}

-- as many tables, and memories, are given as the module imports; so what it defines stands where it counts it
pub record AreAligned (d : ModuleDecl) (imports : List Extern) : Type 0 where
  pub tables : length (imported_numbers extern_table table_index imports) ≡ length (imported as_table d)
  pub memories : length (imported_numbers extern_memory memory_index imports) ≡ length (imported as_memory d)

-- ---- the objects that begin with an image

-- one for each that is declared, over its image
abbrev pub imaged : {Declared Item Object : Type 0} → (Declared → List Item → Object) → List Declared → List (List Item) → List Object
imaged object (declared ∷ more) (image ∷ images) = object declared image ∷ imaged object more images
imaged object _ _ = []

-- tables, over the numbers of the functions and the values of the imported globals
abbrev pub imaged_tables : List ℕ → List RawVal → List TableDecl → List (List Cell) → List Table
imaged_tables fs gs tables images =
    imaged (λ (t : TableDecl) image. lazy_table t.ty (reference_of fs gs t.init) image fs) tables images

abbrev pub led_tables : Machine → ModuleDecl → List Extern → List Table
led_tables m d imports =
    imaged_tables (function_numbers m d imports) (imported_values m imports) d.tables (table_images d)

abbrev pub led_memories : ModuleDecl → List Memory
led_memories d = imaged imaged_memory d.memories (memory_images d)

-- ---- the segments: of those that lead what taking leaves, of the others all

-- a segment that is written or declared is dropped
abbrev pub left_items : {A : Type 0} → ElemMode → List A → List A
left_items elem_mode.Passive items = items
left_items elem_mode.Declared items = []
left_items (elem_mode.Active table offset) items = []

abbrev pub left_bytes : DataMode → List ℕ → List ℕ
left_bytes data_mode.Passive bytes = bytes
left_bytes (data_mode.Active memory offset) bytes = []

-- the references of an element segment, over the numbers of the functions and the values of the globals; and of each kind
-- what is left of a segment
abbrev pub references : List ℕ → List RawVal → ElemDecl → List RawRef
references fs gs e = map (reference_of fs gs) e.items

abbrev pub left_references : List ℕ → List RawVal → ElemDecl → List RawRef
left_references fs gs e = left_items e.mode (references fs gs e)

abbrev pub whole_data : DataDecl → List ℕ
whole_data e = e.bytes

abbrev pub left_data : DataDecl → List ℕ
left_data e = left_bytes e.mode e.bytes

-- what the first so many leave, and the others whole
abbrev pub left : {Declared Item : Type 0} → (Declared → List Item) → (Declared → List Item) → ℕ → List Declared → List (List Item)
left kept whole leading declared = map kept (take leading declared) ++ map whole (drop leading declared)

abbrev pub left_elements : List ℕ → List RawVal → ℕ → List ElemDecl → List (List RawRef)
left_elements fs gs leading elements = left (left_references fs gs) (references fs gs) leading elements

abbrev pub left_datas : ℕ → List DataDecl → List (List ℕ)
left_datas leading datas = left left_data whole_data leading datas

abbrev pub kept_elements : Machine → ModuleDecl → List Extern → List (List RawRef)
kept_elements m d imports =
    left_elements (function_numbers m d imports) (global_values m d imports) (leading_elements d) d.elements

abbrev pub kept_datas : ModuleDecl → List (List ℕ)
kept_datas d = left_datas (leading_datas d) d.datas

-- ---- the store, and the turn

-- an instance with these segments
abbrev pub begun_instance : Machine → ModuleDecl → List Extern → List (List RawRef) → List (List ℕ) → InstanceParts
begun_instance m d imports elements datas = record (new_instance m d imports) { elements = elements; datas = datas }

-- the store with the new objects of an instance, with these tables, memories and segments
abbrev pub begun : Machine → ModuleDecl → List Extern → List Table → List Memory → List (List RawRef) → List (List ℕ) → Machine
begun m d imports tables memories elements datas =
    append_instance (append_functions (append_tags (append_globals (append_tables (append_memories m memories) tables)
    (new_globals m d imports)) (new_tags d)) (new_functions m d)) (begun_instance m d imports elements datas)

-- the store in which the segments that lead are taken
abbrev pub led : Machine → ModuleDecl → List Extern → Machine
led m d imports =
    begun m d imports (led_tables m d imports) (led_memories d) (kept_elements m d imports) (kept_datas d)

-- and the others are to be taken, from the first that does not lead
abbrev pub take_others : ℕ → List ℕ → List RawVal → Machine → ModuleDecl → Taken
take_others instance fs gs m d =
    take_elements instance fs gs m (leading_elements d) (drop (leading_elements d) d.elements) (λ after.
    take_datas instance fs gs after (leading_datas d) (drop (leading_datas d) d.datas))

-- the turn that makes an instance
abbrev pub make_led : Machine → ModuleDecl → List Extern → Taken
make_led m d imports =
    take_others (length m.instances) (function_numbers m d imports) (global_values m d imports) (led m d imports) d

-- ---- the law

-- so making an instance comes to the same: in each store, whether or not it is well formed or the module is valid
abbrev pub LawOfImages : Type 0
LawOfImages =
    (m : Machine) (d : ModuleDecl) (imports : List Extern) → AreAligned d imports → make m d imports ≡ make_led m d imports
