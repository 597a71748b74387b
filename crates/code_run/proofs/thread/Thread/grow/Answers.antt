use Rattle.std.proofs.Common.{refl, ap, arith}
use Rattle.code_run.specs.Asking.{Asks, ruled_in}
use Rattle.code_run.specs.Spinning.{growth_instr}
use Rattle.code_run.specs.Steps.{seen}
use Rattle.spec_machine.specs.Machine.{debt}
use Rattle.code_leaps.proofs.TurnLemmas.{turns_of_instr}
use Rattle.code_run.proofs.thread.Thread.grow.Goals as goal

pub returns-clause-turns : goal.returns-clause-turns
returns-clause-turns g c =
    turns_of_instr (ruled_in c.args.context.now)
    (Asks c.args.context.now.rules g.W.Surroundings.moves)
    (seen c.args.self.now) (growth_instr c.args.growing) _ refl _ _
    c.take_fuel.ensures.held _ _ _ _ _ _ _ c.take_growth.ensures.turns

pub returns-clause-debt : goal.returns-clause-debt
returns-clause-debt g c =
    omega (arith, ap debt c.take_growth.ensures.fuel, c.take_fuel.ensures.debt, c.take_growth.ensures.owed)

pub returns-clause-unmetered : goal.returns-clause-unmetered
returns-clause-unmetered g c = λ e. omega (arith, c.take_growth.ensures.owed)
