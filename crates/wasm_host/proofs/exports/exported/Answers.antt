use Rattle.std.proofs.Common.{◌∙◌, ap}
use Rattle.std.specs.Prelude.{Some, None}
use Rattle.wasm_syntax.specs.declared.declarations.ModuleDecl.{ModuleDecl}
use Rattle.wasm_module.specs.Exports.{export_named}
use Rattle.wasm_host.specs.StoreViews.{store_of}
use Rattle.wasm_host.proofs.ExportLemmas.{export_seen}
use Rattle.wasm_host.proofs.exports.exported.Goals as goal

pub returns-in-Some : goal.returns-in-Some
returns-in-Some c = λ i named.
    let told = c.in-Some.ensures ∙ ap (λ (d : ModuleDecl). export_named d c.args.name.now) c.module.ensures in
    c.object.ensures i named
    ∙ export_seen (store_of c.args.store.now) i c.args.instance.now c.args.name.now (Some c.in-Some.export) named told

pub returns-in-None : goal.returns-in-None
returns-in-None c = λ i named.
    let told = c.in-None.ensures ∙ ap (λ (d : ModuleDecl). export_named d c.args.name.now) c.module.ensures in
    export_seen (store_of c.args.store.now) i c.args.instance.now c.args.name.now None named told
