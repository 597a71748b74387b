use Rattle.std.proofs.Common.{ap, sym, ◌∙◌, subst}
use Rattle.wasm_module.specs.Fitting.{AreTables}
use Rattle.wasm_module.specs.Images.{table_images}
use Rattle.wasm_module.specs.declared.modules.Validated.{Validated}
use Rattle.wasm_module.proofs.LeadLemmas.{tables_are}
use Rattle.wasm_module.proofs.modules.Module.table_images.Goals as goal

pub returns-clause-fits : goal.returns-clause-fits
returns-clause-fits c =
    let d = c.args.self.now in
    let is =
    c.in_ok-images.ensures ∙ ap (λ (v : Validated). table_images v.decl) c.deref-2.ensures ∙ ap table_images c.self.view_is in
    subst (AreTables d) (sym is) (tables_are d)
