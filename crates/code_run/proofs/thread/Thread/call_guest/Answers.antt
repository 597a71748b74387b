use Rattle.std.proofs.Common.{arith, ap, length}
use Rattle.std.proofs.lemmas.List.{length-reverse}
use Rattle.code_run.proofs.CallLemmas.{calls_untyped, calls_few, calls_deep}
use Rattle.code_run.proofs.thread.Thread.call_guest.Goals as goal

pub returns-in_default : goal.returns-in_default
returns-in_default c = λ n e. calls_untyped c.args.program.now c.args.frames n c.args.self.now c.args.self.now
    c.args.instance c.args.number e c.in_default.ensures

pub returns-then-operands-params : goal.returns-then-operands-params
returns-then-operands-params c = λ n e.
    calls_few c.args.program.now c.args.frames n c.args.self.now c.args.self.now c.args.instance c.args.number e _
    c.in-Some.ensures
    (omega (
      arith,
      ap length c.operands.ensures,
      length-reverse c.args.self.now.values.operands,
      ap length
          c.params.ensures,
    ))

pub returns-then-self-frames : goal.returns-then-self-frames
returns-then-self-frames c = λ n e.
    calls_deep c.args.program.now c.args.frames n c.args.self.now c.args.self.now c.args.instance c.args.number e _
    c.in-Some.ensures
    (omega (
      arith,
      ap length c.operands.ensures,
      length-reverse c.args.self.now.values.operands,
      ap length
          c.params.ensures,
    )) c.if-self-frames.true

pub returns : goal.returns
returns c = λ n e. c.in_ok-step.ensures c.args.program.now c.args.frames n c.args.number e c.in-Some.ensures
    (omega (arith, c.in-Some-checked_add.ensures)) c.if-self-frames.false
