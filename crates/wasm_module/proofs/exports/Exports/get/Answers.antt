use Rattle.std.proofs.Common.{◌∙◌, ap, sym, List}
use Rattle.wasm_module.specs.Exports.{Entry, entity_named}
use Rattle.wasm_module.proofs.ExportNames.{Names, names_of}
use Rattle.wasm_module.proofs.exports.Exports.get.Goals as goal

pub returns : goal.returns
returns c =
    c.copied.ensures ∙ c.get.ensures.value
    ∙ ap (λ (names : Names). names c.args.name.now) (sym (names_of c.self.inside.by_name))
    ∙ ap (λ (es : List Entry). entity_named es c.args.name.now) c.self.view_is
