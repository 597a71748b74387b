use Rattle.std.proofs.Common.{length, ap, sym, ◌∙◌, subst, arith, zero-add}
use Rattle.std.specs.Bool.{then_some}
use Rattle.wasm_syntax.specs.declared.segments.DataDecl.{DataDecl}
use Rattle.wasm_module.specs.Images.{led_data, led_alone, most_bytes}
use Rattle.wasm_module.specs.Fitting.{AreMemories, memory_size}
use Rattle.wasm_module.proofs.LeadLemmas.{none_are, started, uncons, led_data_keeps, walk_goes_on}
use Rattle.wasm_module.proofs.leading.lead_datas.Goals as goal

pub segments-init : goal.segments-init
segments-init c =
    let d = c.args.decl.now in
    let begun = started (λ images (e : DataDecl). led_data d images e.mode e.bytes) c.args.images.now _ c.as_slice-rest.result.now d.datas
    c.requires.none c.as_slice-rest.ensures in
    record {
      are = subst (AreMemories d) (sym c.requires.none) (none_are memory_size most_bytes d.memories);
      count = zero-add _ ∙ ap (λ r. r.0) begun;
      images = ap (λ r. r.1) begun;
      number = zero-add _ ∙ ap length c.as_slice-rest.ensures;
    }

pub segments-preserved : goal.segments-preserved
segments-preserved c =
    let d = c.args.decl.now in
    let at = c.segments in
    let item = c.segment-item.result in
    let is = uncons at.rest.now item (omega (arith, c.in-len1-up.len_at_least)) c.segment-item.is in
    let after = c.lead_data.new.images in
    let led = sym (ap (λ b. then_some b after) (sym c.if-not-branch.false) ∙ c.in_ok-lead_data.ensures.led
    ∙ ap (led_data d at.images item.mode) c.as_slice.ensures) in
    let next = walk_goes_on (λ images (e : DataDecl). led_data d images e.mode e.bytes) at.count at.images at.rest.now
    (led_alone d).0 (led_alone d).1 at.invariant.count at.invariant.images item _ is after led in
    record {
      are = led_data_keeps d at.images item.mode item.bytes after at.invariant.are led;
      count = next.0;
      images = next.1;
      number = omega (arith, at.invariant.number, ap length is);
    }
