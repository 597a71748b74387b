use Rattle.code_run.specs.Steps.{seen}
use Rattle.code_run.specs.declared.spins.Growing.TheVariants as growing
use Rattle.std.proofs.Common.{sym}
use Rattle.code_run.proofs.BulkTurnLemmas.{quiet_of}
use Rattle.code_run.proofs.SpinLemmas.{grows_now, metered_now}
use Rattle.code_run.proofs.thread.Thread.take.Goals as goal

pub returns-in-MemoryGrow-clause-spins : goal.returns-in-MemoryGrow-clause-spins
returns-in-MemoryGrow-clause-spins c = λ owed.
    grows_now c.args.program.now c.args.rules (seen c.args.self.now) c.args.instr
    (growing.Memory c.in-MemoryGrow.index) c.in-MemoryGrow.is c.args.held.now owed c.args.left

pub returns-in-TableGrow-clause-spins : goal.returns-in-TableGrow-clause-spins
returns-in-TableGrow-clause-spins c = λ owed.
    grows_now c.args.program.now c.args.rules (seen c.args.self.now) c.args.instr
    (growing.Table c.in-TableGrow.index) c.in-TableGrow.is c.args.held.now owed c.args.left

pub returns-then-is_bulk-clause-spins : goal.returns-then-is_bulk-clause-spins
returns-then-is_bulk-clause-spins c = λ owed.
    metered_now c.args.program.now c.args.rules (seen c.args.self.now) c.args.instr (sym c.if-is_bulk.ensures)
    c.args.held.now owed c.args.left

pub spend-requires : goal.spend-requires
spend-requires c =
    record {
      quiet = quiet_of c.args.instr (sym c.if-is_bulk.ensures) c.in_default.not-MemoryGrow c.in_default.not-TableGrow;
    }
