use Rattle.std.proofs.Common.{◌≡◌, ◌+◌, length}
use Rattle.wasm_syntax.specs.declared.segments.ElemDecl.{ElemDecl}
use Rattle.wasm_module.specs.Fitting.{AreTables}
use Rattle.wasm_module.specs.Images.{led_by, led_element, led_elements}
use Rattle.wasm_module.proofs.leading.lead_elements.Given as goal

abbrev pub invariant-segments : goal.invariant-segments
invariant-segments l =
    let d = l.decl in
    let left = led_by (λ images (e : ElemDecl). led_element d images e.mode e.items) l.images l.rest in
    record {
      are : AreTables d l.images;
      count : l.count + left.0 ≡ (led_elements d).0;
      images : left.1 ≡ (led_elements d).1;
      number : l.count + length l.rest ≡ length d.elements;
    }

abbrev pub decreases-segments : goal.decreases-segments
decreases-segments l = length l.rest
