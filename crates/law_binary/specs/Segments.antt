-- Element and data segments. WebAssembly core specification, "Binary Format, Modules, Element Section, Data Section"; that a
-- list of functions has the type of non-null references is this project's own.
use Rattle.std.specs.Prelude.{ℕ, List, [], ◌∷◌, true, false}
use Rattle.wasm_types.specs.Signatures.{Signature}
use Rattle.wasm_types.specs.FunctionParts.{ref_type}
use Rattle.wasm_types.specs.declared.value_types.HeapType.TheVariants as h
use Rattle.wasm_types.specs.declared.value_types.RefType.{RefType}
use Rattle.wasm_syntax.specs.declared.segments.DataDecl.{DataDecl}
use Rattle.wasm_syntax.specs.declared.segments.DataMode.{DataMode}
use Rattle.wasm_syntax.specs.declared.segments.DataMode.TheVariants as d
use Rattle.wasm_syntax.specs.declared.segments.ElemDecl.{ElemDecl}
use Rattle.wasm_syntax.specs.declared.segments.ElemMode.{ElemMode}
use Rattle.wasm_syntax.specs.declared.segments.ElemMode.TheVariants as m
use Rattle.binary_types.specs.Segments.{element}
use Rattle.law_binary.specs.Constants.{constant, ref_func}
use Rattle.law_binary.specs.Formats.{Format, Rows, ◌>>=◌, gives, the_byte, u32, vector, byte_vector, by_code, no_table}
use Rattle.law_binary.specs.Types.{reference_type}

-- functions, by their indices; those behind the byte of their kind
abbrev pub functions : ElemMode → Format ElemDecl
functions mode = do
  items ← vector ref_func
  gives (element (ref_type false h.Func) mode items)

abbrev pub functions_of_kind : ElemMode → Format ElemDecl
functions_of_kind mode = do
  _ ← the_byte 0x00
  functions mode

-- constants of a type, and those of a type that is named
abbrev pub constants_of : List Signature → RefType → ElemMode → Format ElemDecl
constants_of types ty mode = do
  items ← vector (constant types)
  gives (element ty mode items)

abbrev pub constants : List Signature → ElemMode → Format ElemDecl
constants types mode = do
  ty ← reference_type types
  constants_of types ty mode

-- where an active segment lies: in the first table, or in one that is named
abbrev pub in_table : List Signature → ℕ → Format ElemMode
in_table types table = do
  offset ← constant types
  gives (m.Active table offset)

abbrev pub in_a_table : List Signature → Format ElemMode
in_a_table types = do
  table ← u32
  in_table types table

abbrev pub element_segments : List Signature → Rows ElemDecl
element_segments types =
    (0, (do mode ← in_table types 0; functions mode))
    ∷ (1, functions_of_kind m.Passive)
    ∷ (2, (do mode ← in_a_table types; functions_of_kind mode))
    ∷ (3, functions_of_kind m.Declared)
    ∷ (4, (do mode ← in_table types 0; constants_of types (ref_type true h.Func) mode))
    ∷ (5, constants types m.Passive)
    ∷ (6, (do mode ← in_a_table types; constants types mode))
    ∷ (7, constants types m.Declared)
    ∷ []

abbrev pub element_segment : List Signature → Format ElemDecl
element_segment types = by_code u32 no_table (element_segments types)

-- the same for data
abbrev pub in_memory : List Signature → ℕ → Format DataMode
in_memory types memory = do
  offset ← constant types
  gives (d.Active memory offset)

abbrev pub in_a_memory : List Signature → Format DataMode
in_a_memory types = do
  memory ← u32
  in_memory types memory

abbrev pub data_modes : List Signature → Rows DataMode
data_modes types = (0, in_memory types 0) ∷ (1, gives d.Passive) ∷ (2, in_a_memory types) ∷ []

abbrev pub data_segment : List Signature → Format DataDecl
data_segment types = do
  mode ← by_code u32 no_table (data_modes types)
  bytes ← byte_vector
  gives (record { mode = mode; bytes = bytes })
