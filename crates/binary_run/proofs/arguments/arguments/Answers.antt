use Rattle.std.proofs.Common.{arith, string_bytes}
use Rattle.binary_run.proofs.WordLemmas.{next_argument}
use Rattle.binary_run.proofs.arguments.arguments.Goals as goal

pub params-preserved : goal.params-preserved
params-preserved c = next_argument string_bytes _ c.params.operands.items _ c.in-Some.operand c.params.params.now c.ty-item.result
    c.params.rest.now c.word-item.result (omega (arith, c.in-len1-up.len_at_least)) (omega (arith, c.in-len1-up-rest.len_at_least))
    c.ty-item.is c.word-item.is (rw c.as_str.ensures.value at c.in-Some.ensures) c.in_ok-push.ensures.items c.params.invariant
