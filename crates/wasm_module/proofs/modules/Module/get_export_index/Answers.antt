use Rattle.std.proofs.Common.{◌≡◌, ◌∙◌, ap, ℕ, List, Option, Some, None, option_map}
use Rattle.wasm_syntax.specs.declared.declarations.ModuleDecl.{ModuleDecl}
use Rattle.wasm_syntax.specs.declared.entities.EntityIndex.{EntityIndex}
use Rattle.wasm_syntax.specs.declared.entities.ModuleExport.{ModuleExport}
use Rattle.wasm_module.specs.Exports.{entity_named, export_named}
use Rattle.wasm_module.specs.declared.modules.Validated.{Validated}
use Rattle.wasm_module.proofs.ExportNames.{Names}
use Rattle.wasm_module.proofs.modules.Module.get_export_index.Goals as goal

abbrev export_at : ℕ → EntityIndex → ModuleExport
export_at number entity = record { «module» = number; entity = entity }

-- what the map of a module finds is the export of the name
found : (v : Validated) (d : ModuleDecl) → v.decl ≡ d → (name : List ℕ) (o : Option EntityIndex) →
    o ≡ entity_named v.exports name → option_map (export_at v.decl.number) o ≡ export_named d name
found v d is name o named =
    ap (option_map (export_at v.decl.number)) (named ∙ ap (λ (names : Names). names name) v.by_name)
    ∙ ap (λ (e : ModuleDecl). export_named e name) is

pub returns-in_err-entity : goal.returns-in_err-entity
returns-in_err-entity c =
    c.from_residual.ensures
    ∙ found c.self.inside.shared.value c.args.self.now c.self.view_is c.args.name.now None
    (c.in_err-entity.ensures ∙ ap (λ (v : Validated). entity_named v.exports c.args.name.now) c.deref.ensures)

pub returns : goal.returns
returns c =
    ap (λ (v : Validated). Some (export_at v.decl.number c.in_ok-entity.entity)) c.deref-2.ensures
    ∙ found c.self.inside.shared.value c.args.self.now c.self.view_is c.args.name.now (Some c.in_ok-entity.entity)
    (c.in_ok-entity.ensures ∙ ap (λ (v : Validated). entity_named v.exports c.args.name.now) c.deref.ensures)
