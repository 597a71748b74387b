-- The tables, memories and globals of a module as JSON data. This project's own format.
use Rattle.std.specs.Prelude.{List, [], ◌∷◌, Option, Some, codes}
use Rattle.serde_json.specs.Data.{Data}
use Rattle.wasm_types.specs.FunctionParts.{heap_type}
use Rattle.wasm_types.specs.Matching.{heap_top}
use Rattle.wasm_types.specs.MemoryTypes.{MemoryParts}
use Rattle.wasm_types.specs.Signatures.{Signature}
use Rattle.wasm_types.specs.TableTypes.{TableParts}
use Rattle.script_json.specs.Fields.{◌>>=◌, field, field_or, required, only}
use Rattle.script_types.specs.Types.{global_type_in, memory_type_in, table_type_in}
use Rattle.wasm_syntax.specs.declared.constants.ConstExpr.{ConstExpr}
use Rattle.wasm_syntax.specs.declared.constants.ConstExpr.TheVariants as const
use Rattle.wasm_syntax.specs.declared.declarations.GlobalDecl.{GlobalDecl}
use Rattle.wasm_syntax.specs.declared.declarations.TableDecl.{TableDecl}
use Rattle.script_modules.specs.Constants.{constant_of}

-- the start value of a table's elements: by default the null of their family
abbrev pub table_start_of : TableParts → Data → Option ConstExpr
table_start_of ty d = field_or (const.RefNull (heap_top (heap_type ty.element))) constant_of (field (codes "init") d)

abbrev pub table_of : List Signature → Data → Option TableDecl
table_of types d = do
  _ ← only (codes "ref" ∷ codes "min" ∷ codes "max" ∷ codes "init" ∷ []) d
  ty ← table_type_in types d
  init ← table_start_of ty d
  Some (record { ty = ty; init = init })

abbrev pub memory_of : Data → Option MemoryParts
memory_of d = do
  _ ← only (codes "min" ∷ codes "max" ∷ codes "page" ∷ []) d
  memory_type_in d

abbrev pub global_of : List Signature → Data → Option GlobalDecl
global_of types d = do
  _ ← only (codes "val" ∷ codes "mut" ∷ codes "init" ∷ []) d
  ty ← global_type_in types d
  init ← required constant_of (codes "init") d
  Some (record { ty = ty; init = init })
