use Rattle.std.proofs.Common.{◌≡◌, length, reverse}
use Rattle.wasm_syntax.specs.Typing.{Typed, want_all}
use Rattle.module_typing.specs.Operands.{types_in}
use Rattle.module_typing.proofs.code.Code.all_fit.Given as goal

abbrev pub invariant-loop-last : goal.invariant-loop-last
invariant-loop-last l = (next : Typed) →
    want_all l.wanted (types_in l.self l.operands) (λ rest. next) ≡ want_all l.rest (types_in l.self (reverse l.left)) (λ rest. next)

abbrev pub decreases-loop-last : goal.decreases-loop-last
decreases-loop-last l = length l.rest
