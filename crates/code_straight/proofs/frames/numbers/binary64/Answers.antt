use Rattle.std.proofs.Common.{◌-◌, ◌∷◌, ap, sym, ◌∙◌, arith}
use Rattle.wasm_syntax.specs.Operators.{arith as number, binary_width, binary_result_width}
use Rattle.wasm_objects.specs.declared.raw.RawVal.{RawVal}
use Rattle.spec_execution.specs.Operands as on
use Rattle.spec_execution.specs.Straight.{Effect, Goes, Traps}
use Rattle.code_straight.specs.Frames.{topmost}
use Rattle.code_straight.proofs.FrameLemmas.{topmost_put_at}
use Rattle.code_straight.proofs.OperatorLemmas.{counted, barred}
use Rattle.code_straight.proofs.frames.numbers.binary64.Goals as goal

pub returns-in_default-clause-acts : goal.returns-in_default-clause-acts
returns-in_default-clause-acts c = λ locals instance m.
    c.in_default.ensures.takes (binary_width c.args.op) c.requires.width _

pub returns-in-Ok-clause-acts : goal.returns-in-Ok-clause-acts
returns-in-Ok-clause-acts c = λ locals instance m.
    let go : RawVal → Effect = λ v. Goes m locals (v ∷ topmost (c.args.height - 2) c.args.operands.now) in
    c.in-Some.ensures.takes (binary_width c.args.op) c.requires.width _
    ∙ counted go (binary_result_width c.args.op) (number c.args.op c.in-Some.x c.in-Some.y) c.in-Ok.n
    c.in-Ok.ensures.value
    ∙ ap (λ k. go (on.integer k c.in-Ok.n)) c.gives_one_wide-wide.ensures
    ∙ ap go (sym c.integer.ensures)
    ∙ ap go (sym c.put_value.ensures)
    ∙ ap (Goes m locals) (sym (topmost_put_at c.args.operands.now (c.args.height - 1) (c.args.height - 2)
    c.put_value.new.operand (omega (arith, c.in-Some.ensures.some)) (omega (arith, c.in-Some.ensures.some))))

pub returns-in-Err-clause-acts : goal.returns-in-Err-clause-acts
returns-in-Err-clause-acts c = λ locals instance m.
    c.in-Some.ensures.takes (binary_width c.args.op) c.requires.width _
    ∙ barred (λ v. Goes m locals (v ∷ topmost (c.args.height - 2) c.args.operands.now))
    (binary_result_width c.args.op) (number c.args.op c.in-Some.x c.in-Some.y) c.in-Err.trap c.in-Err.ensures.value
    ∙ ap Traps (sym c.trap_of.ensures)
