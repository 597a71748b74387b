use Rattle.std.proofs.Common.{◌≡◌, length}
use Rattle.wasm_binary.specs.Sections.{sections}
use Rattle.wasm_binary.proofs.walk.all_sections.Given as goal

abbrev pub invariant-sections : goal.invariant-sections
invariant-sections l = sections l.fn.engine l.fn.sections l.fn.input ≡ sections l.engine l.sections l.input

abbrev pub decreases-sections : goal.decreases-sections
decreases-sections l = length l.input.left
