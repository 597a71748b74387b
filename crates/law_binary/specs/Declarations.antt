-- Imports, exports, tables, tags and globals.
-- WebAssembly core specification, "Binary Format, Modules", narrowed to this project's profile; that a table may begin with
-- its value is that of the proposal for function references.
use Rattle.std.specs.Prelude.{ℕ, List, [], ◌∷◌, nat_eq}
use Rattle.wasm_types.specs.Signatures.{Signature}
use Rattle.wasm_types.specs.declared.extern_type.ExternType.{ExternType}
use Rattle.wasm_types.specs.declared.extern_type.ExternType.TheVariants as x
use Rattle.wasm_syntax.specs.declared.declarations.ExportDecl.{ExportDecl}
use Rattle.wasm_syntax.specs.declared.declarations.GlobalDecl.{GlobalDecl}
use Rattle.wasm_syntax.specs.declared.declarations.ImportDecl.{ImportDecl}
use Rattle.wasm_syntax.specs.declared.declarations.TableDecl.{TableDecl}
use Rattle.wasm_syntax.specs.declared.entities.EntityIndex.{EntityIndex}
use Rattle.wasm_syntax.specs.declared.entities.EntityIndex.TheVariants as e
use Rattle.binary_types.specs.Entries.{null_of, table_decl}
use Rattle.law_binary.specs.Constants.{constant}
use Rattle.law_binary.specs.Formats.{Format, Rows, ◌>>=◌, gives, byte, the_byte, u32, name, by_code, by_first, no_table}
use Rattle.law_binary.specs.Types.{type_at, type_index, table_type, memory_type, global_type}

-- a tag is a type index behind a zero
abbrev pub tag_type : List Signature → Format Signature
tag_type types = do
  _ ← the_byte 0x00
  type_at types

abbrev pub tag : List Signature → Format ℕ
tag types = do
  _ ← the_byte 0x00
  type_index types

-- what is imported
abbrev pub func_import : List Signature → Format ExternType
func_import types = do
  t ← type_at types
  gives (x.Func t)

abbrev pub table_import : List Signature → Format ExternType
table_import types = do
  t ← table_type types
  gives (x.Table t)

abbrev pub memory_import : Format ExternType
memory_import = do
  t ← memory_type
  gives (x.Memory t)

abbrev pub global_import : List Signature → Format ExternType
global_import types = do
  t ← global_type types
  gives (x.Global t)

abbrev pub tag_import : List Signature → Format ExternType
tag_import types = do
  t ← tag_type types
  gives (x.Tag t)

abbrev pub extern_types : List Signature → Rows ExternType
extern_types types =
    (0x00, func_import types) ∷ (0x01, table_import types) ∷ (0x02, memory_import) ∷ (0x03, global_import types)
    ∷ (0x04, tag_import types) ∷ []

abbrev pub import : List Signature → Format ImportDecl
import types = do
  from ← name
  item ← name
  ty ← by_code byte no_table (extern_types types)
  gives (record { «module» = from; name = item; ty = ty })

-- what is exported
abbrev pub index : (ℕ → EntityIndex) → Format EntityIndex
index entity = do
  n ← u32
  gives (entity n)

abbrev pub entities : Rows EntityIndex
entities =
    (0x00, index e.Func) ∷ (0x01, index e.Table) ∷ (0x02, index e.Memory) ∷ (0x03, index e.Global) ∷ (0x04, index e.Tag) ∷ []

abbrev pub export : Format ExportDecl
export = do
  item ← name
  what ← by_code byte no_table entities
  gives (record { name = item; entity = what })

-- a table of nulls; and a table with a value, behind 40 00, which begins no type
abbrev pub null_table : List Signature → Format TableDecl
null_table types = do
  t ← table_type types
  gives (table_decl t (null_of t))

abbrev pub valued_table : List Signature → Format TableDecl
valued_table types = do
  _ ← the_byte 0x40
  _ ← the_byte 0x00
  t ← table_type types
  init ← constant types
  gives (table_decl t init)

abbrev pub table : List Signature → Format TableDecl
table types = by_first (λ b. nat_eq b 0x40) (valued_table types) (null_table types)

abbrev pub global : List Signature → Format GlobalDecl
global types = do
  t ← global_type types
  init ← constant types
  gives (record { ty = t; init = init })
