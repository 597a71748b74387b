-- The entries of the sections for tables, tags and globals.
-- WebAssembly core specification, "Binary Format, Modules"; that a table may begin with its value is that of the proposal
-- for function references
use Rattle.std.specs.Prelude.{ℕ, List, Bool, true, false, nat_eq}
use Rattle.wasm_types.specs.Signatures.{Signature}
use Rattle.wasm_types.specs.FunctionParts.{heap_type}
use Rattle.wasm_types.specs.Matching.{heap_top}
use Rattle.wasm_types.specs.TableTypes.{TableParts}
use Rattle.wasm_syntax.specs.declared.constants.ConstExpr.{ConstExpr}
use Rattle.wasm_syntax.specs.declared.constants.ConstExpr.TheVariants as c
use Rattle.wasm_syntax.specs.declared.declarations.GlobalDecl.{GlobalDecl}
use Rattle.wasm_syntax.specs.declared.declarations.TableDecl.{TableDecl}
use Rattle.binary_types.specs.Constants.{constant}
use Rattle.binary_types.specs.Reading.{Read, ◌>>=◌, done, peek, fixed}
use Rattle.binary_types.specs.Types.{type_index, table_type, global_type}

-- the null of the type of the elements
abbrev pub null_of : TableParts → ConstExpr
null_of t = c.RefNull (heap_top (heap_type t.element))

abbrev pub table_decl : TableParts → ConstExpr → TableDecl
table_decl t init = record { ty = t; init = init }

-- a table with a value behind 40 00, or a table of nulls
abbrev pub valued_table : List Signature → Read TableDecl
valued_table types = do
  _ ← fixed 0x40
  _ ← fixed 0x00
  t ← table_type types
  init ← constant types
  done (table_decl t init)

abbrev pub null_table : List Signature → Read TableDecl
null_table types = do
  t ← table_type types
  done (table_decl t (null_of t))

abbrev pub table_if : Bool → List Signature → Read TableDecl
table_if true types = valued_table types
table_if false types = null_table types

abbrev pub table : List Signature → Read TableDecl
table types = do
  b ← peek
  table_if (nat_eq b 0x40) types

-- a tag: the number of its type, behind a zero
abbrev pub tag : List Signature → Read ℕ
tag types = do
  _ ← fixed 0x00
  type_index types

abbrev pub global : List Signature → Read GlobalDecl
global types = do
  t ← global_type types
  init ← constant types
  done (record { ty = t; init = init })
