use Rattle.std.proofs.Common.{◌≡◌, ◌+◌, ◌≤◌, length}
use Rattle.wasm_syntax.specs.FirstBroken.{first_from}
use Rattle.wasm_syntax.specs.Rules.{body}
use Rattle.module_rules.proofs.bodies.body.Given as goal

abbrev pub invariant-loop-function : goal.invariant-loop-function
invariant-loop-function l = record {
  rest : first_from (body l.spaces.decl.now).functions 0 l.spaces.decl.now.functions ≡ first_from (body l.spaces.decl.now).functions l.number l.rest;
  number : l.number + length l.rest ≡ length l.spaces.decl.now.functions;
  heights : length l.heights.items ≡ l.number;
  few : length l.spaces.decl.now.functions ≤ 1000000;
}

abbrev pub decreases-loop-function : goal.decreases-loop-function
decreases-loop-function l = length l.rest
