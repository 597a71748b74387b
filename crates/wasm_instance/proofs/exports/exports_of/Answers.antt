use Rattle.std.proofs.Common.{List, ap, sym, ◌∙◌, subst}
use Rattle.wasm_syntax.specs.declared.declarations.ExportDecl.{ExportDecl}
use Rattle.wasm_syntax.specs.declared.declarations.ModuleDecl.{ModuleDecl}
use Rattle.wasm_values.specs.declared.store_id.StoreId.{StoreId}
use Rattle.spec_machine.specs.Machine.{Machine, InstanceParts}
use Rattle.store_state.specs.Parts.{Names}
use Rattle.wasm_instance.specs.Exports.{AreThere}
use Rattle.wasm_instance.proofs.ExportLemmas.{all_there}
use Rattle.wasm_instance.proofs.exports.exports_of.Goals as goal

pub invariant_of-result : goal.invariant_of-result
invariant_of-result c =
    let m : Machine = c.args.objects.now in
    let n : Names = c.in_ok-stored.stored.now in
    let s = c.in_ok-stored.ensures in
    record {
      there =
          subst (λ (id : StoreId). AreThere id n c.as_slice-declared.result.now) (sym c.id.ensures)
          (subst (λ (es : List ExportDecl). AreThere m.id n es)
          (sym (c.as_slice-declared.ensures ∙ ap (λ (d : ModuleDecl). d.exports) (c.decl.ensures.value
          ∙ sym (ap (λ (i : InstanceParts). i.decl) s.2.1))))
          (all_there m c.args.instance s.0 n c.keeps_well_formed.ensures s.1 s.2));
    }
