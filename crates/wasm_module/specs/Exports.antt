-- Exports by name.
-- WebAssembly core specification, "Structure, Modules, Exports"
use Rattle.std.specs.Prelude.{ℕ, Bool, List, map, take, find, Option, option_map}
use Rattle.std.specs.List.{list_any}
use Rattle.std.specs.Str.{bytes_eq}
use Rattle.wasm_syntax.specs.declared.declarations.ExportDecl.{ExportDecl}
use Rattle.wasm_syntax.specs.declared.declarations.ModuleDecl.{ModuleDecl}
use Rattle.wasm_syntax.specs.declared.entities.EntityIndex.{EntityIndex}
use Rattle.wasm_syntax.specs.declared.entities.ModuleExport.{ModuleExport}

-- an export's name and what it names
abbrev pub Entry : Type 0
Entry = List ℕ × EntityIndex

abbrev pub entries : List ExportDecl → List Entry
entries exports = map (λ (e : ExportDecl). (e.name, e.entity)) exports

-- what the first entry of this name names
abbrev pub entity_named : List Entry → List ℕ → Option EntityIndex
entity_named es name = option_map (λ (e : Entry). e.1) (find (λ (e : Entry). bytes_eq e.0 name) es)

-- the export of this name: the module's number, and what the export names
abbrev pub export_named : ModuleDecl → List ℕ → Option ModuleExport
export_named d name = option_map (λ entity. record { «module» = d.number; entity = entity }) (entity_named (entries d.exports) name)

-- whether an export before the one of this number has the same name
abbrev pub named_before : List ExportDecl → ℕ → ExportDecl → Bool
named_before exports n export = list_any (λ (other : ExportDecl). bytes_eq other.name export.name) (take n exports)
