use Rattle.std.proofs.Common.{ap, arith}
use Rattle.code_run.specs.Asking.{Asks}
use Rattle.code_leaps.specs.Running.{charged}
use Rattle.code_run.specs.Steps.{seen}
use Rattle.spec_machine.specs.Machine.{debt}
use Rattle.code_run.proofs.CheckedTurnLemmas.{check_fails, check_stops, check_then}
use Rattle.code_run.proofs.thread.Thread.turn_checked.Goals as goal

pub returns-in-Fails-clause-turns : goal.returns-in-Fails-clause-turns
returns-in-Fails-clause-turns g c =
    check_fails c.args.context.now.program.now c.args.context.now.rules
    (Asks c.args.context.now.rules g.W.Surroundings.moves)
    (seen c.args.self.now) c.args.held.now c.args.owed c.take_fuel.new.held c.take_fuel.ensures.held
    c.args.world.now c.args.most.left c.check-checked.result c.check-checked.new.held
    c.check-checked.new.world (c.check-checked.ensures.checks c.args.context.now.program.now)
    (seen c.args.self.now) c.in-Fails.fault c.in-Fails.is

pub returns-in-Limit-clause-turns : goal.returns-in-Limit-clause-turns
returns-in-Limit-clause-turns g c =
    check_stops c.args.context.now.program.now c.args.context.now.rules
    (Asks c.args.context.now.rules g.W.Surroundings.moves)
    (seen c.args.self.now) c.args.held.now c.args.owed c.take_fuel.new.held c.take_fuel.ensures.held
    c.args.world.now c.args.most.left c.check-checked.result c.check-checked.new.held
    c.check-checked.new.world (c.check-checked.ensures.checks c.args.context.now.program.now)
    (seen c.args.self.now) c.in-Limit.is

pub returns-in-Passes-clause-turns : goal.returns-in-Passes-clause-turns
returns-in-Passes-clause-turns g c =
    check_then c.args.context.now.program.now c.args.context.now.rules
    (Asks c.args.context.now.rules g.W.Surroundings.moves)
    (seen c.args.self.now) c.args.held.now c.args.owed c.take_fuel.new.held c.take_fuel.ensures.held
    c.args.world.now c.args.most.left c.check-checked.result c.check-checked.new.held
    c.check-checked.new.world (c.check-checked.ensures.checks c.args.context.now.program.now)
    c.in-Passes.is c.turn-turned.result.what c.turn-turned.result.spent (seen c.turn-turned.new.self)
    (charged c.args.context.now.rules.consumes_fuel c.turn-turned.new.held c.turn-turned.result.owed)
    c.turn-turned.new.world c.turn-turned.ensures.turns

pub returns-in-Fails-clause-debt : goal.returns-in-Fails-clause-debt
returns-in-Fails-clause-debt g c = omega (arith, ap debt c.check-checked.ensures.fuel, c.take_fuel.ensures.debt)

pub returns-in-Limit-clause-debt : goal.returns-in-Limit-clause-debt
returns-in-Limit-clause-debt g c = omega (arith, ap debt c.check-checked.ensures.fuel, c.take_fuel.ensures.debt)

pub returns-in-Passes-clause-debt : goal.returns-in-Passes-clause-debt
returns-in-Passes-clause-debt g c =
    omega (
      arith,
      ap debt c.check-checked.ensures.fuel,
      c.take_fuel.ensures.debt,
      c.turn-turned.ensures.debt,
    )

pub turn-turned-requires-clause-fuel : goal.turn-turned-requires-clause-fuel
turn-turned-requires-clause-fuel g c = λ e.
    omega (
      arith,
      c.requires.fuel e,
      ap debt c.check-checked.ensures.fuel,
      c.take_fuel.ensures.debt,
    )
