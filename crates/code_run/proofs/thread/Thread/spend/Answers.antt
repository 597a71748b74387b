use Rattle.std.proofs.Common.{◌+◌, refl}
use Rattle.code_run.specs.Steps.{seen}
use Rattle.code_run.proofs.BulkTurnLemmas.{quiet_asks_nothing}
use Rattle.code_run.proofs.SpinLemmas.{spin_limit, spin_exhausted, spin_step}
use Rattle.code_run.proofs.thread.Thread.spend.Goals as goal

pub execute-requires : goal.execute-requires
execute-requires c = quiet_asks_nothing c.args.instr c.requires.quiet

pub returns-then-left-eq0-clause-spins : goal.returns-then-left-eq0-clause-spins
returns-then-left-eq0-clause-spins c = λ owed.
    spin_limit c.args.program.now c.args.rules (seen c.args.self.now) c.args.instr c.requires.quiet c.args.held.now
    c.args.held.now owed c.args.left (seen c.args.self.now) c.if-left-eq0.true

pub returns-in-Err-clause-spins : goal.returns-in-Err-clause-spins
returns-in-Err-clause-spins c = λ owed.
    spin_exhausted c.args.program.now c.args.rules (seen c.args.self.now) c.args.instr c.requires.quiet c.args.held.now
    c.execute.new.held owed c.args.left (seen c.execute.new.self) c.in-Err.ensures.err

pub returns-in-Ok-clause-spins : goal.returns-in-Ok-clause-spins
returns-in-Ok-clause-spins c = λ owed.
    spin_step c.args.program.now c.args.rules (seen c.args.self.now) c.args.instr c.requires.quiet c.args.held.now
    c.execute.new.held owed c.args.left c.if-left-eq0.false c.in-Ok.signal c.execute.new.self
    (c.in-Ok.ensures.steps c.args.rules (owed + 1) refl) c.beat_of.result c.beat_of.ensures
