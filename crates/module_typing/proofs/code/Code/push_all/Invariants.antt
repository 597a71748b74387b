use Rattle.std.proofs.Common.{◌≡◌, length}
use Rattle.wasm_syntax.specs.Typing.{onto}
use Rattle.module_typing.specs.Operands.{types_in}
use Rattle.module_typing.proofs.code.Code.push_all.Given as goal

abbrev pub invariant-loop-rest : goal.invariant-loop-rest
invariant-loop-rest l = onto l.rest (types_in l.self l.operands) ≡ onto l.types (types_in l.self l.fn.operands)

abbrev pub decreases-loop-rest : goal.decreases-loop-rest
decreases-loop-rest l = length l.rest
