-- Modules in texts: what a text in JSON comes to. This project's own format.
use Rattle.std.specs.Prelude.{ℕ, List, [], Option, Some, None, Result, Err, codes}
use Rattle.serde_json.specs.Data.{Data}
use Rattle.script_json.specs.Fields.{◌>>=◌, field, field_or, required}
use Rattle.script_json.specs.Json.{json_of}
use Rattle.script_types.specs.Types.{type_list_of}
use Rattle.script_modules.specs.Modules.{module_of}
use Rattle.wasm_types.specs.declared.plain.EngineId.{EngineId}
use Rattle.wasm_syntax.specs.declared.declarations.ModuleDecl.{ModuleDecl}
use Rattle.wasm_embedding.specs.Bytes.{valid}
use Rattle.wasm_embedding.specs.declared.faults.Fault.{Fault}
use Rattle.wasm_embedding.specs.declared.faults.Fault.TheVariants as fault

-- the number of the engine of the modules, which is that of their types: 1
abbrev pub engine_number : EngineId
engine_number = record { 0 = 1 }

-- the declaration of this number in the data: an object with the types at "types", where there are some, and the module
-- at "module"
abbrev pub declared_in : ℕ → Data → Option ModuleDecl
declared_in number d = do
  types ← field_or [] type_list_of (field (codes "types") d)
  required (module_of types engine_number number) (codes "module") d

-- what a text comes to: no JSON; JSON that declares no module; a module that breaks a rule, the first one and where it is
-- broken first; a valid module
abbrev pub of_declaration : Option ModuleDecl → Result ModuleDecl Fault
of_declaration None = Err fault.NotModule
of_declaration (Some decl) = valid decl

abbrev pub of_data : ℕ → Option Data → Result ModuleDecl Fault
of_data number None = Err fault.NotJson
of_data number (Some d) = of_declaration (declared_in number d)

abbrev pub module_in_text : ℕ → List ℕ → Result ModuleDecl Fault
module_in_text number bytes = of_data number (json_of bytes)
