use Rattle.std.proofs.Common.{◌≡◌, List, length}
use Rattle.wasm_types.specs.declared.value_types.ValType.{ValType}
use Rattle.wasm_syntax.specs.Typing.{Typed, want_all}
use Rattle.module_typing.specs.Operands.{types_in}
use Rattle.module_typing.proofs.code.Code.want_all.Given as goal

abbrev pub invariant-loop-last : goal.invariant-loop-last
invariant-loop-last l = (go : List ValType → Typed) →
    want_all l.fn.wanted (types_in l.self l.fn.operands) go ≡ want_all l.rest (types_in l.self l.operands) go

abbrev pub decreases-loop-last : goal.decreases-loop-last
decreases-loop-last l = length l.rest
