-- What a module exports under a name: the type of a function, or whether it is a memory. This project's own.
use Rattle.std.specs.Prelude.{ℕ, List, Bool, true, false, Option, Some, None, option_and_then}
use Rattle.wasm_types.specs.Signatures.{Signature}
use Rattle.wasm_syntax.specs.Contexts.{function_type, functions}
use Rattle.wasm_syntax.specs.declared.declarations.ModuleDecl.{ModuleDecl}
use Rattle.wasm_syntax.specs.declared.entities.EntityIndex.{EntityIndex}
use Rattle.wasm_syntax.specs.declared.entities.EntityIndex.TheVariants as entity
use Rattle.wasm_syntax.specs.declared.entities.ModuleExport.{ModuleExport}
use Rattle.wasm_module.specs.Exports.{export_named}

-- the type of the function that is exported under a name
abbrev pub type_of_entity : ModuleDecl → EntityIndex → Option Signature
type_of_entity d (entity.Func f) = function_type (functions d) f
type_of_entity d _ = None

abbrev pub exported_function : ModuleDecl → List ℕ → Option Signature
exported_function d name = option_and_then (λ (e : ModuleExport). type_of_entity d e.entity) (export_named d name)

-- whether a memory is exported under a name
abbrev pub is_memory : EntityIndex → Bool
is_memory (entity.Memory m) = true
is_memory _ = false

abbrev pub is_memory_export : Option ModuleExport → Bool
is_memory_export None = false
is_memory_export (Some e) = is_memory e.entity

abbrev pub exports_memory : ModuleDecl → List ℕ → Bool
exports_memory d name = is_memory_export (export_named d name)
