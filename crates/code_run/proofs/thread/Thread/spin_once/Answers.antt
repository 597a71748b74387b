use Rattle.std.proofs.Common.{◌+◌}
use Rattle.code_stack.specs.Layers.{means}
use Rattle.code_leaps.specs.Leading.{at}
use Rattle.code_leaps.specs.Running.{ruled, charged}
use Rattle.code_run.specs.Spinning.{ahead_of}
use Rattle.code_run.specs.Steps.{seen}
use Rattle.code_run.proofs.SpinLemmas.{spins_from, over_now}
use Rattle.code_run.proofs.thread.Thread.spin_once.Goals as goal

pub returns-then-not-settle-clause-spins : goal.returns-then-not-settle-clause-spins
returns-then-not-settle-clause-spins c = λ owed free.
    over_now c.args.program.now c.args.rules (means (seen c.args.self.now)) c.args.held.now owed c.args.left
    (seen c.settle.new.self) c.settle.new.self.step c.if-not-settle.ensures.1 c.if-not-settle.ensures.0

pub returns-clause-spins : goal.returns-clause-spins
returns-clause-spins c = λ owed free.
    let start = charged c.args.rules.consumes_fuel c.args.held.now owed in
    spins_from (ruled c.args.program.now c.args.rules) (means (seen c.args.self.now)) (means (seen c.settle.new.self))
    start
    (λ base b turns before answers. c.if-not-settle.ensures.0
    (at (ruled c.args.program.now c.args.rules) base start turns before answers))
    c.args.left c.advance.result.spent (seen c.advance.new.self)
    (charged c.args.rules.consumes_fuel c.advance.new.held (owed + c.advance.result.spent))
    (ahead_of c.advance.result.beat c.advance.new.self) (c.advance.ensures.spins owed free)
