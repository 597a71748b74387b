-- Modules in the binary format: the magic number and the version, and then sections.
-- WebAssembly core specification, "Binary Format, Modules", narrowed to this project's profile
use Rattle.std.specs.Prelude.{◌≡◌, ℕ, List, length, Bool, ◌&&◌, nat_eq, Result, Ok, Err, ⊤}
use Rattle.wasm_types.specs.declared.plain.EngineId.{EngineId}
use Rattle.wasm_syntax.specs.declared.declarations.ModuleDecl.{ModuleDecl}
use Rattle.wasm_leb.specs.Places.{Place, place}
use Rattle.binary_types.specs.Reading.{Read, ◌>>=◌, done, unless, fixed}
use Rattle.binary_types.specs.declared.faults.BinaryFault.{BinaryFault}
use Rattle.binary_types.specs.declared.faults.BinaryFault.TheVariants.{Malformed, OutOfMemory}
use Rattle.wasm_binary.specs.Sections.{no_sections, is_count, sections}
use Rattle.wasm_binary.specs.declared.sections.Sections.{Sections}

-- the bytes 00 "asm", and version 1 in four bytes, the least one first
abbrev pub header : Read ⊤
header = do
  _ ← fixed 0x00
  _ ← fixed 0x61
  _ ← fixed 0x73
  _ ← fixed 0x6d
  _ ← fixed 0x01
  _ ← fixed 0x00
  _ ← fixed 0x00
  fixed 0x00

-- as many bodies as functions, and as many data segments as were counted
abbrev pub is_whole : Sections → Bool
is_whole s = nat_eq (length s.bodies) (length s.functions) && is_count s.counted (length s.datas)

abbrev pub module_by : EngineId → ℕ → Sections → ModuleDecl
module_by engine number s = record {
  engine = engine;
  number = number;
  types = s.types;
  imports = s.imports;
  functions = s.bodies;
  tables = s.tables;
  memories = s.memories;
  globals = s.globals;
  tags = s.tags;
  exports = s.exports;
  elements = s.elements;
  datas = s.datas;
  start = s.start;
}

-- a module: the header, and sections that fit together
abbrev pub module_text : EngineId → ℕ → Read ModuleDecl
module_text engine number = do
  _ ← header
  s ← sections engine no_sections
  _ ← unless Malformed (is_whole s)
  done (module_by engine number s)

abbrev pub result_of : Result (ModuleDecl × Place) BinaryFault → Result ModuleDecl BinaryFault
result_of (Ok r) = Ok r.0
result_of (Err fault) = Err fault

-- the declaration that the bytes spell, or their first fault
abbrev pub module_of : EngineId → ℕ → List ℕ → Result ModuleDecl BinaryFault
module_of engine number bytes = result_of (module_text engine number (place 0 bytes))

-- what a reader of the code answers, where the definition says what is due; want of memory is free
abbrev pub Answers : Result ModuleDecl BinaryFault → Result ModuleDecl BinaryFault → Type 0
Answers due (Ok x) = due ≡ Ok x
Answers due (Err OutOfMemory) = Unit {0}
Answers due (Err fault) = due ≡ Err fault
