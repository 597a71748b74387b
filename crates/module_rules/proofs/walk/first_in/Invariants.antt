use Rattle.std.proofs.Common.{◌≡◌, ◌+◌, length}
use Rattle.wasm_syntax.specs.FirstBroken.{first_from}
use Rattle.module_rules.proofs.walk.first_in.Given as goal

abbrev pub invariant-loop-rest : goal.invariant-loop-rest
invariant-loop-rest g l = record {
  rest : first_from (g.C.Test.breaks l.test) 0 l.items ≡ first_from (g.C.Test.breaks l.test) l.number l.rest;
  number : l.number + length l.rest ≡ length l.items;
}

abbrev pub decreases-loop-rest : goal.decreases-loop-rest
decreases-loop-rest g l = length l.rest
