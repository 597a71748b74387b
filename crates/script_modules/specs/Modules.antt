-- Modules as JSON data: an object of lists, each of which is empty where its key is not there. This project's own
-- format.
use Rattle.std.specs.Prelude.{ℕ, List, [], ◌∷◌, ◌++◌, length, Option, Some, codes}
use Rattle.serde_json.specs.Data.{Data, Items, no_items, item}
use Rattle.serde_json.specs.Find.{as_array}
use Rattle.wasm_types.specs.Signatures.{Signature}
use Rattle.wasm_types.specs.declared.plain.EngineId.{EngineId}
use Rattle.script_json.specs.Fields.{◌>>=◌, field, optional, only, list_or_empty}
use Rattle.script_types.specs.Types.{whole_32}
use Rattle.wasm_syntax.specs.declared.declarations.ModuleDecl.{ModuleDecl}
use Rattle.script_modules.specs.Entries.{global_of, memory_of, table_of}
use Rattle.script_modules.specs.Exports.{export_of}
use Rattle.script_modules.specs.Functions.{function_of}
use Rattle.script_modules.specs.Imports.{import_of}
use Rattle.script_modules.specs.Segments.{data_of, elements_of}
use Rattle.script_modules.specs.declared.modules.Definitions.{Definitions}
use Rattle.script_modules.specs.declared.modules.Segments.{Segments}

-- what the module defines; a tag is the number of its type
abbrev pub definitions_of : List Signature → Data → Option Definitions
definitions_of types d = do
  functions ← list_or_empty (function_of types) (codes "functions") d
  tables ← list_or_empty (table_of types) (codes "tables") d
  memories ← list_or_empty memory_of (codes "memories") d
  globals ← list_or_empty (global_of types) (codes "globals") d
  tags ← list_or_empty whole_32 (codes "tags") d
  Some (record { functions = functions; tables = tables; memories = memories; globals = globals; tags = tags })

abbrev pub segments_of : List Signature → Data → Option Segments
segments_of types d = do
  elements ← list_or_empty (elements_of types) (codes "elements") d
  datas ← list_or_empty data_of (codes "datas") d
  Some (record { elements = elements; datas = datas })

-- the keys of a module
abbrev pub keys : List (List ℕ)
keys =
    codes "imports" ∷ codes "functions" ∷ codes "tables" ∷ codes "memories" ∷ codes "globals" ∷ codes "tags"
    ∷ codes "exports" ∷ codes "elements" ∷ codes "datas" ∷ codes "start" ∷ []

-- the declaration of a module of these types, this engine and this number: it has all of the types, and a start
-- function where the key is there
unfoldable pub module_of : List Signature → EngineId → ℕ → Data → Option ModuleDecl
module_of types engine number d = do
  _ ← only keys d
  imports ← list_or_empty (import_of types) (codes "imports") d
  defined ← definitions_of types d
  exports ← list_or_empty export_of (codes "exports") d
  segments ← segments_of types d
  start ← optional whole_32 (field (codes "start") d)
  Some (record {
    engine = engine;
    number = number;
    types = types;
    imports = imports;
    functions = defined.functions;
    tables = defined.tables;
    memories = defined.memories;
    globals = defined.globals;
    tags = defined.tags;
    exports = exports;
    elements = segments.elements;
    datas = segments.datas;
    start = start;
  })

-- the modules of a list, behind those before: the number of each is how many there are before it
abbrev pub modules_after : List Signature → EngineId → List ModuleDecl → Items → Option (List ModuleDecl)
modules_after types engine before no_items = Some before
modules_after types engine before (item d ds) =
    module_of types engine (length before) d >>= (λ next. modules_after types engine (before ++ next ∷ []) ds)

abbrev pub modules_of : List Signature → EngineId → Data → Option (List ModuleDecl)
modules_of types engine d = as_array d >>= modules_after types engine []
