-- The modules of a script as JSON data. This project's own format.
use Rattle.std.specs.Prelude.{List, [], Option, codes}
use Rattle.serde_json.specs.Data.{Data}
use Rattle.wasm_types.specs.Signatures.{Signature}
use Rattle.wasm_types.specs.declared.plain.EngineId.{EngineId}
use Rattle.wasm_syntax.specs.declared.declarations.ModuleDecl.{ModuleDecl}
use Rattle.script_json.specs.Fields.{field, field_or}
use Rattle.script_modules.specs.Modules.{modules_of}

-- the number of the engine of a script's modules, which is that of its types: 1
abbrev pub engine_number : EngineId
engine_number = record { 0 = 1 }

-- the modules at the key "modules" of a script, none by default; each has all of the types, and its place in the list as
-- its number
abbrev pub modules_in : List Signature → Data → Option (List ModuleDecl)
modules_in types d = field_or [] (modules_of types engine_number) (field (codes "modules") d)
