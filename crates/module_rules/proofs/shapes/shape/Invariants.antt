use Rattle.std.proofs.Common.{◌≡◌, ◌+◌, ◌≤◌, length}
use Rattle.wasm_syntax.specs.FirstBroken.{first_from}
use Rattle.wasm_syntax.specs.Rules.{shape}
use Rattle.module_rules.proofs.shapes.shape.Given as goal

abbrev pub invariant-loop-function : goal.invariant-loop-function
invariant-loop-function l = record {
  rest : first_from (shape l.decl).functions 0 l.decl.functions ≡ first_from (shape l.decl).functions l.number l.rest;
  number : l.number + length l.rest ≡ length l.decl.functions;
  few : length l.decl.functions ≤ 1000000;
}

abbrev pub decreases-loop-function : goal.decreases-loop-function
decreases-loop-function l = length l.rest
