use Rattle.std.proofs.Common.{ap, arith, subst}
use Rattle.store_state.specs.Parts.{HeldParts}
use Rattle.spec_machine.specs.Machine.{debt}
use Rattle.code_leaps.specs.Running.{ruled, charged}
use Rattle.code_leaps.specs.Spending.{Spends}
use Rattle.code_leaps.specs.Turns.{passing}
use Rattle.code_run.specs.Steps.{seen}
use Rattle.code_run.proofs.thread.Thread.meter.Goals as goal

pub returns-clause-spends : goal.returns-clause-spends
returns-clause-spends c =
    subst (λ (h : HeldParts). Spends (ruled c.args.program.now c.args.rules)
    (passing (seen c.args.self.now) c.args.self.now.bulk) h c.args.left c.take_bulk.result.what
    c.take_bulk.result.spent (seen c.take_bulk.new.self)
    (charged c.args.rules.consumes_fuel c.take_bulk.new.held c.take_bulk.result.owed)) c.take_fuel.ensures.held
    c.take_bulk.ensures.spends

pub returns-clause-debt : goal.returns-clause-debt
returns-clause-debt c =
    omega (arith, ap debt c.take_bulk.ensures.fuel, c.take_fuel.ensures.debt, c.take_bulk.ensures.owed)
