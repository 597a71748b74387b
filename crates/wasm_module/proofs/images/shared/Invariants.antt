use Rattle.std.proofs.Common.{◌≡◌, map}
use Rattle.std.specs.Prelude.{vec_items}
use Rattle.std.specs.Rc.{rc_slice_items}
use Rattle.wasm_module.proofs.images.shared.Given as goal

abbrev pub invariant-loop-image : goal.invariant-loop-image
invariant-loop-image l = map rc_slice_items l.shared.items ≡ map vec_items l.yielded
