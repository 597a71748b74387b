use Rattle.std.proofs.Common.{length, ap, sym, ◌∙◌, subst, arith, zero-add}
use Rattle.std.specs.Bool.{then_some}
use Rattle.wasm_syntax.specs.declared.segments.ElemDecl.{ElemDecl}
use Rattle.wasm_module.specs.Images.{led_element, led_elements, most_cells}
use Rattle.wasm_module.specs.Fitting.{AreTables, table_size}
use Rattle.wasm_module.proofs.LeadLemmas.{none_are, started, uncons, led_element_keeps, walk_goes_on}
use Rattle.wasm_module.proofs.leading.lead_elements.Goals as goal

pub segments-init : goal.segments-init
segments-init c =
    let d = c.args.decl.now in
    let begun = started (λ images (e : ElemDecl). led_element d images e.mode e.items) c.args.images.now _ c.as_slice-rest.result.now d.elements
    c.requires.none c.as_slice-rest.ensures in
    record {
      are = subst (AreTables d) (sym c.requires.none) (none_are table_size most_cells d.tables);
      count = zero-add _ ∙ ap (λ r. r.0) begun;
      images = ap (λ r. r.1) begun;
      number = zero-add _ ∙ ap length c.as_slice-rest.ensures;
    }

pub segments-preserved : goal.segments-preserved
segments-preserved c =
    let d = c.args.decl.now in
    let at = c.segments in
    let item = c.segment-item.result in
    let is = uncons at.rest.now item (omega (arith, c.in-len1-up.len_at_least)) c.segment-item.is in
    let after = c.lead_element.new.images in
    let led = sym (ap (λ b. then_some b after) (sym c.if-not-branch.false) ∙ c.in_ok-lead_element.ensures.led
    ∙ ap (led_element d at.images item.mode) c.as_slice.ensures) in
    let next = walk_goes_on (λ images (e : ElemDecl). led_element d images e.mode e.items) at.count at.images at.rest.now
    (led_elements d).0 (led_elements d).1 at.invariant.count at.invariant.images item _ is after led in
    record {
      are = led_element_keeps d at.images item.mode item.items after at.invariant.are led;
      count = next.0;
      images = next.1;
      number = omega (arith, at.invariant.number, ap length is);
    }
