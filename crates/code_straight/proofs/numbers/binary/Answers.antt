use Rattle.std.proofs.Common.{◌∷◌, ◌∙◌, refl}
use Rattle.wasm_syntax.specs.Operators.{arith, binary_width, binary_result_width}
use Rattle.spec_execution.specs.Straight.{Goes}
use Rattle.code_straight.proofs.ChangeLemmas.{goes-pushed}
use Rattle.code_straight.proofs.OperatorLemmas.{operated, trapped}
use Rattle.code_straight.proofs.numbers.binary.Goals as goal

pub returns-in_default-clause-acts : goal.returns-in_default-clause-acts
returns-in_default-clause-acts c = λ instance m.
    c.in_default.ensures.takes (binary_width c.args.op) c.takes_two_wide.ensures _

pub returns-in-Ok-clause-acts : goal.returns-in-Ok-clause-acts
returns-in-Ok-clause-acts c = λ instance m.
    c.in-Some.ensures.takes (binary_width c.args.op) c.takes_two_wide.ensures _
    ∙ (operated (λ v. Goes m c.args.values.now.locals (v ∷ c.take_two.new.values.operands))
    (binary_result_width c.args.op) (arith c.args.op c.in-Some.x c.in-Some.y) c.in-Ok.value
    c.in-Ok.ensures
    ∙ goes-pushed m c.take_two.new.values c.push.new.self c.args.values.now.locals c.in-Ok.value c.in-Ok.value
    c.push.ensures c.in-Some.ensures.locals refl)

pub returns-in-Err-clause-acts : goal.returns-in-Err-clause-acts
returns-in-Err-clause-acts c = λ instance m.
    c.in-Some.ensures.takes (binary_width c.args.op) c.takes_two_wide.ensures _
    ∙ trapped (λ v. Goes m c.args.values.now.locals (v ∷ c.take_two.new.values.operands))
    (binary_result_width c.args.op) (arith c.args.op c.in-Some.x c.in-Some.y) c.in-Err.trap
    c.in-Err.ensures
