use Rattle.std.proofs.Common.{length}
use Rattle.wasm_types.specs.Each.{Each}
use Rattle.wasm_module.proofs.sound.each.Given as goal

-- what holds of each item that is left is all that is missing
abbrev pub invariant-loop-rest : goal.invariant-loop-rest
invariant-loop-rest g l = Each l.rest g.T.Typed.keeps → Each l.items g.T.Typed.keeps

abbrev pub decreases-loop-rest : goal.decreases-loop-rest
decreases-loop-rest g l = length l.rest
