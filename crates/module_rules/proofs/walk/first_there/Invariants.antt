use Rattle.std.proofs.Common.{◌≡◌, length}
use Rattle.wasm_syntax.specs.FirstBroken.{first_there}
use Rattle.module_rules.proofs.walk.first_there.Given as goal

abbrev pub invariant-loop-rest : goal.invariant-loop-rest
invariant-loop-rest l = first_there l.places ≡ first_there l.rest

abbrev pub decreases-loop-rest : goal.decreases-loop-rest
decreases-loop-rest l = length l.rest
