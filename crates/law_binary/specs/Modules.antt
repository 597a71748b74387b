-- Modules: the magic number and the version, and then sections.
-- WebAssembly core specification, "Binary Format, Modules, Sections, Custom Section, Modules", narrowed to this project's
-- profile; the tag section is that of the proposal for exception handling.
use Rattle.std.specs.Prelude.{◌≡◌, ◌⊎◌, ℕ, List, [], ◌∷◌, length, Some, ⊤}
use Rattle.wasm_types.specs.Signatures.{Signature}
use Rattle.wasm_types.specs.MemoryTypes.{MemoryParts}
use Rattle.wasm_types.specs.declared.plain.EngineId.{EngineId}
use Rattle.wasm_syntax.specs.declared.declarations.ExportDecl.{ExportDecl}
use Rattle.wasm_syntax.specs.declared.declarations.GlobalDecl.{GlobalDecl}
use Rattle.wasm_syntax.specs.declared.declarations.ImportDecl.{ImportDecl}
use Rattle.wasm_syntax.specs.declared.declarations.ModuleDecl.{ModuleDecl}
use Rattle.wasm_syntax.specs.declared.declarations.TableDecl.{TableDecl}
use Rattle.wasm_syntax.specs.declared.segments.DataDecl.{DataDecl}
use Rattle.wasm_syntax.specs.declared.segments.ElemDecl.{ElemDecl}
use Rattle.binary_types.specs.Reading.{Read, then, done}
use Rattle.binary_types.specs.declared.faults.BinaryFault.{BinaryFault}
use Rattle.binary_code.specs.declared.section.Functions.{Functions}
use Rattle.wasm_binary.specs.Modules.{is_whole, module_by}
use Rattle.wasm_binary.specs.Sections as read
use Rattle.wasm_binary.specs.Sections.{code_context, declared_types, is_count, no_sections, with_last}
use Rattle.law_binary.specs.Bodies as bodies
use Rattle.law_binary.specs.Declarations.{import, table, tag, global, export}
use Rattle.law_binary.specs.Formats.{Format, InOrder, ◌>>=◌, gives, holds, item, name, sized, the_byte, times, u32, vector}
use Rattle.law_binary.specs.FunctionTypes as types
use Rattle.law_binary.specs.Segments.{element_segment, data_segment}
use Rattle.law_binary.specs.Types.{TypeOf, memory_type, type_index}

-- what the sections before hold. That it says which was the last is for the reader alone.
abbrev pub Held : Type 0
Held = TypeOf no_sections

-- a section: its id, what it holds, and where that is put
pub record Section : Type 1 where
  pub Value : Type 0
  pub id : ℕ
  pub content : Held → Format Value
  pub put : Value → Held → Held

abbrev pub type_section : EngineId → Section
type_section engine = record {
  Value = List Signature;
  id = 1;
  content = λ s. types.type_section engine.0;
  put = λ ts s. record s { declared = length ts; types = ts };
}

abbrev pub import_section : Section
import_section = record {
  Value = List ImportDecl;
  id = 2;
  content = λ s. vector (import (declared_types s));
  put = λ xs s. record s { imports = xs };
}

abbrev pub function_section : Section
function_section = record {
  Value = List ℕ;
  id = 3;
  content = λ s. vector (type_index (declared_types s));
  put = λ xs s. record s { functions = xs };
}

abbrev pub table_section : Section
table_section = record {
  Value = List TableDecl;
  id = 4;
  content = λ s. vector (table (declared_types s));
  put = λ xs s. record s { tables = xs };
}

abbrev pub memory_section : Section
memory_section = record {
  Value = List MemoryParts;
  id = 5;
  content = λ s. vector memory_type;
  put = λ xs s. record s { memories = xs };
}

abbrev pub tag_section : Section
tag_section = record {
  Value = List ℕ;
  id = 13;
  content = λ s. vector (tag (declared_types s));
  put = λ xs s. record s { tags = xs };
}

abbrev pub global_section : Section
global_section = record {
  Value = List GlobalDecl;
  id = 6;
  content = λ s. vector (global (declared_types s));
  put = λ xs s. record s { globals = xs };
}

abbrev pub export_section : Section
export_section = record {
  Value = List ExportDecl;
  id = 7;
  content = λ s. vector export;
  put = λ xs s. record s { exports = xs };
}

abbrev pub start_section : Section
start_section = record {
  Value = ℕ;
  id = 8;
  content = λ s. u32;
  put = λ f s. record s { start = Some f };
}

abbrev pub element_section : Section
element_section = record {
  Value = List ElemDecl;
  id = 9;
  content = λ s. vector (element_segment (declared_types s));
  put = λ xs s. record s { elements = xs };
}

abbrev pub data_count_section : Section
data_count_section = record {
  Value = ℕ;
  id = 12;
  content = λ s. u32;
  put = λ n s. record s { counted = Some n };
}

abbrev pub code_section : EngineId → Section
code_section engine = record {
  Value = Functions;
  id = 10;
  content = λ s. bodies.code_section (code_context engine s) s.functions s.types;
  put = λ fs s. record s { types = fs.types; bodies = fs.functions };
}

-- as many data segments as were counted, where they were
abbrev pub datas : Held → Format (List DataDecl)
datas s = do
  n ← u32
  _ ← holds (is_count s.counted n)
  times n (data_segment (declared_types s))

abbrev pub data_section : Section
data_section = record {
  Value = List DataDecl;
  id = 11;
  content = datas;
  put = λ xs s. record s { datas = xs };
}

abbrev pub order : EngineId → List Section
order engine =
    type_section engine ∷ import_section ∷ function_section ∷ table_section ∷ memory_section ∷ tag_section ∷ global_section
    ∷ export_section ∷ start_section ∷ element_section ∷ data_count_section ∷ code_section engine ∷ data_section ∷ []

-- a custom section: a name, and whatever bytes
abbrev pub custom : Format ⊤
custom = do
  _ ← name
  item (λ bytes _. Unit {0})

abbrev pub custom_section : Format ⊤
custom_section = do
  _ ← the_byte 0
  sized custom

abbrev pub customs : Format ⊤
customs = item (λ bytes _. (xs : List ⊤) × InOrder custom_section.Spells bytes xs)

-- what a section holds, put in its place
abbrev pub filled : Section → Held → Format Held
filled k s = do
  x ← k.content s
  gives (k.put x s)

-- a section that is there, and one that may be there
abbrev pub present : Section → Held → Format Held
present k s = do
  _ ← the_byte k.id
  x ← sized (k.content s)
  gives (k.put x s)

abbrev pub present_or_not : Section → Held → Format Held
present_or_not k s = record {
  Spells = λ bytes t. ((bytes ≡ []) × (t ≡ s)) ⊎ (present k s).Spells bytes t;
  Fails = λ at bytes f. (present k s).Fails at bytes f;
}

-- sections in this order, each at most once, and custom sections anywhere
abbrev pub sections : List Section → Held → Format Held
sections [] s = do
  _ ← customs
  gives s
sections (k ∷ ks) s = do
  _ ← customs
  t ← present_or_not k s
  sections ks t

-- what all sections of a module hold, but for which of them was the last; and the same as it is read
abbrev pub all_sections : EngineId → Format Held
all_sections engine = do
  s ← sections (order engine) no_sections
  gives (with_last 0 s)

abbrev pub read_sections : EngineId → Read Held
read_sections engine p = then (read.sections engine no_sections p) (λ s. done (with_last 0 s))

-- 00 "asm", and version 1 in four bytes, the least one first
abbrev pub header : Format ⊤
header = do
  _ ← the_byte 0x00
  _ ← the_byte 0x61
  _ ← the_byte 0x73
  _ ← the_byte 0x6d
  _ ← the_byte 0x01
  _ ← the_byte 0x00
  _ ← the_byte 0x00
  the_byte 0x00

-- a module: as many bodies as functions, and as many data segments as were counted
abbrev pub «module» : EngineId → ℕ → Format ModuleDecl
«module» engine number = do
  _ ← header
  s ← sections (order engine) no_sections
  _ ← holds (is_whole s)
  gives (module_by engine number s)

-- the bytes spell this declaration; they have this fault
abbrev pub IsModule : EngineId → ℕ → List ℕ → ModuleDecl → Type 0
IsModule engine number bytes m = («module» engine number).Spells bytes m

abbrev pub HasFault : EngineId → ℕ → List ℕ → BinaryFault → Type 0
HasFault engine number bytes f = («module» engine number).Fails 0 bytes f
