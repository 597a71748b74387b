use Rattle.std.proofs.Common.{ap, sym, ◌∙◌, subst}
use Rattle.wasm_module.specs.Fitting.{AreMemories}
use Rattle.wasm_module.specs.Images.{memory_images}
use Rattle.wasm_module.specs.declared.modules.Validated.{Validated}
use Rattle.wasm_module.proofs.LeadLemmas.{memories_are}
use Rattle.wasm_module.proofs.modules.Module.memory_images.Goals as goal

pub returns-clause-fits : goal.returns-clause-fits
returns-clause-fits c =
    let d = c.args.self.now in
    let is =
    c.in_ok-images.ensures ∙ ap (λ (v : Validated). memory_images v.decl) c.deref-2.ensures ∙ ap memory_images c.self.view_is in
    subst (AreMemories d) (sym is) (memories_are d)
