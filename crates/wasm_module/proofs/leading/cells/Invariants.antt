use Rattle.std.proofs.Common.{◌≡◌, ◌++◌, length}
use Rattle.std.specs.Prelude.{option_map}
use Rattle.wasm_module.specs.Images.{cells_of}
use Rattle.wasm_module.proofs.leading.cells.Given as goal

abbrev pub invariant-items : goal.invariant-items
invariant-items l = cells_of l.items ≡ option_map (λ more. l.cells.items ++ more) (cells_of l.rest)

abbrev pub decreases-items : goal.decreases-items
decreases-items l = length l.rest
