use Rattle.std.proofs.Common.{arith, ap, length}
use Rattle.std.proofs.lemmas.List.{length-reverse}
use Rattle.code_run.proofs.CallLemmas.{host_few, host_deep, host_calls}
use Rattle.code_run.proofs.thread.Thread.call_host.Goals as goal

pub returns-then-operands-params : goal.returns-then-operands-params
returns-then-operands-params c =
    host_few c.args.frames c.args.call c.args.self.now
    (omega (
      arith,
      ap length c.operands.ensures,
      length-reverse c.args.self.now.values.operands,
      ap length
          c.params.ensures,
    ))

pub returns-then-self-frames : goal.returns-then-self-frames
returns-then-self-frames c =
    host_deep c.args.frames c.args.call c.args.self.now
    (omega (
      arith,
      ap length c.operands.ensures,
      length-reverse c.args.self.now.values.operands,
      ap length
          c.params.ensures,
    )) c.if-self-frames.true

pub returns : goal.returns
returns c =
    host_calls c.args.frames c.args.call c.args.self.now
    (omega (
      arith,
      ap length c.operands.ensures,
      length-reverse c.args.self.now.values.operands,
      ap length
          c.params.ensures,
    )) c.if-self-frames.false
