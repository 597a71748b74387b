use Rattle.std.proofs.Common.{◌∙◌, ap, sym}
use Rattle.std.specs.Prelude.{Bool, None, cond}
use Rattle.wasm_syntax.specs.declared.declarations.ModuleDecl.{ModuleDecl}
use Rattle.spec_machine.specs.InstanceCalls.{object}
use Rattle.wasm_host.specs.Callers.{is_export_of}
use Rattle.wasm_host.specs.StoreViews.{store_of}
use Rattle.wasm_host.proofs.ExportLemmas.{entity_seen}
use Rattle.wasm_host.proofs.exports.exported_by.Goals as goal

pub returns-then-not-is_exported : goal.returns-then-not-is_exported
returns-then-not-is_exported c = λ i named.
    let told = c.is_exported.ensures ∙ ap (λ (d : ModuleDecl). is_export_of d c.args.export.now) c.decl.ensures.value in
    sym (ap (λ (b : Bool). cond b (object (store_of c.args.store.now) i c.args.export.now.entity) None)
    c.if-not-is_exported.true)
    ∙ entity_seen (store_of c.args.store.now) i c.args.instance.now c.args.export.now c.is_exported.result named told

pub returns : goal.returns
returns c = λ i named.
    let told = c.is_exported.ensures ∙ ap (λ (d : ModuleDecl). is_export_of d c.args.export.now) c.decl.ensures.value in
    c.object.ensures i named
    ∙ sym (ap (λ (b : Bool). cond b (object (store_of c.args.store.now) i c.args.export.now.entity) None)
    c.if-not-is_exported.false)
    ∙ entity_seen (store_of c.args.store.now) i c.args.instance.now c.args.export.now c.is_exported.result named told
