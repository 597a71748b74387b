-- The sections of a module in the binary format, in their order.
-- WebAssembly core specification, "Binary Format, Modules", narrowed to this project's profile
use Rattle.std.specs.Prelude.{◌≡◌, ℕ, zero, suc, ◌+◌, List, [], length, take, Bool, true, false, is_some, nat_eq, nat_lt, if◌then◌else◌, Option, Some, None, Result, Ok, Err, ⊤}
use Rattle.wasm_types.specs.Signatures.{Signature}
use Rattle.wasm_types.specs.declared.plain.EngineId.{EngineId}
use Rattle.wasm_leb.specs.Places.{Place, place}
use Rattle.binary_types.specs.Entries.{table, tag, global}
use Rattle.binary_types.specs.FunctionTypes as types
use Rattle.binary_types.specs.Imports.{import, export}
use Rattle.binary_types.specs.Reading.{Read, ◌>>=◌, done, unless, some_or, byte, u32, name, listed, times, sized}
use Rattle.binary_types.specs.Segments.{element_segment, data_segment}
use Rattle.binary_types.specs.Types.{type_index, memory_type}
use Rattle.binary_types.specs.declared.faults.BinaryFault.{BinaryFault}
use Rattle.binary_types.specs.declared.faults.BinaryFault.TheVariants.{Malformed, OutOfMemory}
use Rattle.binary_code.specs.Bodies as code
use Rattle.binary_code.specs.declared.context.CodeContext.{CodeContext}
use Rattle.wasm_binary.specs.declared.sections.SectionKind.{SectionKind}
use Rattle.wasm_binary.specs.declared.sections.SectionKind.TheVariants as kind
use Rattle.wasm_binary.specs.declared.sections.Sections.{Sections}

-- what a reader of the code that fills in sections answers and where it then stands, where the definition says what is due;
-- want of memory is free
abbrev pub Fills : Result (Sections × Place) BinaryFault → Result ⊤ BinaryFault → Sections → Place → Type 0
Fills due (Ok x) sections after = due ≡ Ok (sections, after)
Fills due (Err OutOfMemory) sections after = Unit {0}
Fills due (Err fault) sections after = due ≡ Err fault

-- before the first section
abbrev pub no_sections : Sections
no_sections = record {
  last = 0;
  declared = 0;
  types = [];
  imports = [];
  functions = [];
  bodies = [];
  tables = [];
  memories = [];
  globals = [];
  tags = [];
  exports = [];
  start = None;
  elements = [];
  counted = None;
  datas = [];
}

-- the types of the type section; code adds others behind them
abbrev pub declared_types : Sections → List Signature
declared_types s = take s.declared s.types

-- the sections, each by what it holds
abbrev pub type_section : EngineId → Sections → Read Sections
type_section engine s = do
  ts ← types.type_section engine.0
  done (record s { declared = length ts; types = ts })

abbrev pub import_section : Sections → Read Sections
import_section s = do
  xs ← listed (import (declared_types s))
  done (record s { imports = xs })

abbrev pub function_section : Sections → Read Sections
function_section s = do
  xs ← listed (type_index (declared_types s))
  done (record s { functions = xs })

abbrev pub table_section : Sections → Read Sections
table_section s = do
  xs ← listed (table (declared_types s))
  done (record s { tables = xs })

abbrev pub memory_section : Sections → Read Sections
memory_section s = do
  xs ← listed memory_type
  done (record s { memories = xs })

abbrev pub tag_section : Sections → Read Sections
tag_section s = do
  xs ← listed (tag (declared_types s))
  done (record s { tags = xs })

abbrev pub global_section : Sections → Read Sections
global_section s = do
  xs ← listed (global (declared_types s))
  done (record s { globals = xs })

abbrev pub export_section : Sections → Read Sections
export_section s = do
  xs ← listed export
  done (record s { exports = xs })

abbrev pub start_section : Sections → Read Sections
start_section s = do
  f ← u32
  done (record s { start = Some f })

abbrev pub element_section : Sections → Read Sections
element_section s = do
  xs ← listed (element_segment (declared_types s))
  done (record s { elements = xs })

abbrev pub data_count_section : Sections → Read Sections
data_count_section s = do
  n ← u32
  done (record s { counted = Some n })

-- what code is read by
abbrev pub code_context : EngineId → Sections → CodeContext
code_context engine s = record { engine = engine; declared = s.declared; counted = is_some s.counted }

abbrev pub code_section : EngineId → Sections → Read Sections
code_section engine s = do
  fs ← code.code_section (code_context engine s) s.functions s.types
  done (record s { types = fs.types; bodies = fs.functions })

-- as many segments as were counted, where they were
abbrev pub is_count : Option ℕ → ℕ → Bool
is_count None n = true
is_count (Some count) n = nat_eq n count

abbrev pub data_section : Sections → Read Sections
data_section s = do
  n ← u32
  _ ← unless Malformed (is_count s.counted n)
  xs ← times n (data_segment (declared_types s))
  done (record s { datas = xs })

-- the kind of a section by its id; a custom section has none
abbrev pub kind_of : ℕ → Option SectionKind
kind_of id =
    if nat_eq id 1 then Some kind.Type else
    (if nat_eq id 2 then Some kind.Import else
    (if nat_eq id 3 then Some kind.Function else
    (if nat_eq id 4 then Some kind.Table else
    (if nat_eq id 5 then Some kind.Memory else
    (if nat_eq id 6 then Some kind.Global else
    (if nat_eq id 7 then Some kind.Export else
    (if nat_eq id 8 then Some kind.Start else
    (if nat_eq id 9 then Some kind.Element else
    (if nat_eq id 10 then Some kind.Code else
    (if nat_eq id 11 then Some kind.Data else
    (if nat_eq id 12 then Some kind.DataCount else
    (if nat_eq id 13 then Some kind.Tag else None))))))))))))

-- the place of a kind in the order of sections
abbrev pub rank_of : SectionKind → ℕ
rank_of kind.Type = 1
rank_of kind.Import = 2
rank_of kind.Function = 3
rank_of kind.Table = 4
rank_of kind.Memory = 5
rank_of kind.Tag = 6
rank_of kind.Global = 7
rank_of kind.Export = 8
rank_of kind.Start = 9
rank_of kind.Element = 10
rank_of kind.DataCount = 11
rank_of kind.Code = 12
rank_of kind.Data = 13

-- what a section of a kind holds
abbrev pub content : EngineId → SectionKind → Sections → Read Sections
content engine kind.Type s = type_section engine s
content engine kind.Import s = import_section s
content engine kind.Function s = function_section s
content engine kind.Table s = table_section s
content engine kind.Memory s = memory_section s
content engine kind.Tag s = tag_section s
content engine kind.Global s = global_section s
content engine kind.Export s = export_section s
content engine kind.Start s = start_section s
content engine kind.Element s = element_section s
content engine kind.DataCount s = data_count_section s
content engine kind.Code s = code_section engine s
content engine kind.Data s = data_section s

-- what a custom section holds: a name, and bytes that are not read
abbrev pub skip : Read ⊤
skip p = Ok (tt, place (p.at + length p.left) [])

abbrev pub custom : Read ⊤
custom = do
  _ ← name
  skip

-- a section of a kind, which stands only behind those before it in their order
abbrev pub with_last : ℕ → Sections → Sections
with_last rank s = record s { last = rank }

abbrev pub known_section : EngineId → Sections → SectionKind → Read Sections
known_section engine s k = do
  _ ← unless Malformed (nat_lt s.last (rank_of k))
  t ← sized (content engine k s)
  done (with_last (rank_of k) t)

abbrev pub custom_section : Sections → Read Sections
custom_section s = do
  _ ← sized custom
  done s

abbrev pub section_if : Bool → EngineId → ℕ → Sections → Read Sections
section_if true engine id s = custom_section s
section_if false engine id s = do
  k ← some_or Malformed (kind_of id)
  known_section engine s k

-- one section, by its id; a custom section may stand anywhere
abbrev pub section : EngineId → Sections → Read Sections
section engine s = do
  id ← byte
  section_if (nat_eq id 0) engine id s

-- section after section up to the end, at most so many
abbrev pub section_then : (Sections → Read Sections) → EngineId → Sections → Read Sections
section_then rest engine s = do
  t ← section engine s
  rest t

abbrev pub sections_to : ℕ → EngineId → Sections → Read Sections
sections_to zero engine s p = Err Malformed
sections_to (suc n) engine s p =
    if nat_eq (length p.left) 0 then done s p else section_then (sections_to n engine) engine s p

-- each section takes a byte, so that these are all
abbrev pub sections : EngineId → Sections → Read Sections
sections engine s p = sections_to (suc (length p.left)) engine s p
