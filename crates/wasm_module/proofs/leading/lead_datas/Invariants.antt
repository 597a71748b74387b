use Rattle.std.proofs.Common.{◌≡◌, ◌+◌, length}
use Rattle.wasm_syntax.specs.declared.segments.DataDecl.{DataDecl}
use Rattle.wasm_module.specs.Fitting.{AreMemories}
use Rattle.wasm_module.specs.Images.{led_by, led_data, led_alone}
use Rattle.wasm_module.proofs.leading.lead_datas.Given as goal

abbrev pub invariant-segments : goal.invariant-segments
invariant-segments l =
    let d = l.decl in
    let left = led_by (λ images (e : DataDecl). led_data d images e.mode e.bytes) l.images l.rest in
    record {
      are : AreMemories d l.images;
      count : l.count + left.0 ≡ (led_alone d).0;
      images : left.1 ≡ (led_alone d).1;
      number : l.count + length l.rest ≡ length d.datas;
    }

abbrev pub decreases-segments : goal.decreases-segments
decreases-segments l = length l.rest
