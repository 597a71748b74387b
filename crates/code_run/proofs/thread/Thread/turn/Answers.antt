use Rattle.std.proofs.Common.{◌+◌, ap, arith}
use Rattle.spec_machine.specs.Machine.{debt}
use Rattle.code_run.specs.Asking.{Asks, ruled_in}
use Rattle.code_stack.specs.Layers.{means}
use Rattle.code_leaps.specs.Running.{charged}
use Rattle.code_run.specs.Spinning.{ahead_of}
use Rattle.code_run.specs.Steps.{seen}
use Rattle.code_run.proofs.SpinTurnLemmas.{spun_turns, grown_turns, metered_turns, metered_bulk}
use Rattle.code_run.proofs.thread.Thread.turn.Goals as goal

pub returns-in_default : goal.returns-in_default
returns-in_default g c = record {
  turns =
      spun_turns (ruled_in c.args.context.now)
      (Asks c.args.context.now.rules g.W.Surroundings.moves)
      (means (seen c.args.self.now)) (charged c.args.context.now.rules.consumes_fuel c.args.held.now c.args.owed)
      c.args.world.now c.args.most.left (ahead_of c.spin-spun.result.beat c.spin-spun.new.self) c.spin-spun.result.spent
      (seen c.spin-spun.new.self)
      (charged c.args.context.now.rules.consumes_fuel c.spin-spun.new.held (c.args.owed + c.spin-spun.result.spent))
      (c.spin-spun.ensures.spins c.args.owed c.free_turns-free.ensures) c.what.result
      c.what.ensures;
  debt = omega (arith, ap debt c.spin-spun.ensures.fuel);
  unmetered = λ e. omega arith;
}

pub returns-in-Grows-clause-turns : goal.returns-in-Grows-clause-turns
returns-in-Grows-clause-turns g c =
    grown_turns (ruled_in c.args.context.now)
    (Asks c.args.context.now.rules g.W.Surroundings.moves)
    (means (seen c.args.self.now)) (charged c.args.context.now.rules.consumes_fuel c.args.held.now c.args.owed)
    c.args.world.now c.args.most.left (ahead_of c.spin-spun.result.beat c.spin-spun.new.self) c.spin-spun.result.spent
    (seen c.spin-spun.new.self)
    (charged c.args.context.now.rules.consumes_fuel c.spin-spun.new.held (c.args.owed + c.spin-spun.result.spent))
    (c.spin-spun.ensures.spins c.args.owed c.free_turns-free.ensures) c.in-Grows.growing (ap (λ b. ahead_of b c.spin-spun.new.self) c.in-Grows.is) c.grow-turned.result.what c.grow-turned.result.spent
    (seen c.grow-turned.new.self)
    (charged c.args.context.now.rules.consumes_fuel c.grow-turned.new.held c.grow-turned.result.owed)
    c.grow-turned.new.world c.grow-turned.ensures.turns

pub returns-in-Grows-clause-debt : goal.returns-in-Grows-clause-debt
returns-in-Grows-clause-debt g c =
    omega (arith, ap debt c.spin-spun.ensures.fuel, c.grow-turned.ensures.debt)

pub grow-turned-requires-clause-fuel : goal.grow-turned-requires-clause-fuel
grow-turned-requires-clause-fuel g c = λ e.
    omega (arith, c.requires.fuel e, ap debt c.spin-spun.ensures.fuel, (c.spin-spun.ensures.spins c.args.owed c.free_turns-free.ensures).within)

pub returns-in-Meters-clause-turns : goal.returns-in-Meters-clause-turns
returns-in-Meters-clause-turns g c =
    metered_turns (ruled_in c.args.context.now)
    (Asks c.args.context.now.rules g.W.Surroundings.moves)
    (means (seen c.args.self.now)) (charged c.args.context.now.rules.consumes_fuel c.args.held.now c.args.owed)
    c.args.world.now c.args.most.left (ahead_of c.spin-spun.result.beat c.spin-spun.new.self) c.spin-spun.result.spent
    (seen c.spin-spun.new.self)
    (charged c.args.context.now.rules.consumes_fuel c.spin-spun.new.held (c.args.owed + c.spin-spun.result.spent))
    (c.spin-spun.ensures.spins c.args.owed c.free_turns-free.ensures) c.spin-spun.new.self.bulk
    (ap (λ b. ahead_of b c.spin-spun.new.self) c.in-Meters.is) c.meter-turned.result.what c.meter-turned.result.spent
    (seen c.meter-turned.new.self)
    (charged c.args.context.now.rules.consumes_fuel c.meter-turned.new.held c.meter-turned.result.owed)
    c.meter-turned.ensures.spends

pub returns-in-Meters-clause-debt : goal.returns-in-Meters-clause-debt
returns-in-Meters-clause-debt g c =
    omega (arith, ap debt c.spin-spun.ensures.fuel, c.meter-turned.ensures.debt)

pub meter-turned-requires-clause-bulk : goal.meter-turned-requires-clause-bulk
meter-turned-requires-clause-bulk g c =
    metered_bulk (ruled_in c.args.context.now)
    (Asks c.args.context.now.rules g.W.Surroundings.moves)
    (means (seen c.args.self.now)) (charged c.args.context.now.rules.consumes_fuel c.args.held.now c.args.owed)
    c.args.world.now c.args.most.left (ahead_of c.spin-spun.result.beat c.spin-spun.new.self) c.spin-spun.result.spent
    (seen c.spin-spun.new.self)
    (charged c.args.context.now.rules.consumes_fuel c.spin-spun.new.held (c.args.owed + c.spin-spun.result.spent))
    (c.spin-spun.ensures.spins c.args.owed c.free_turns-free.ensures) c.spin-spun.new.self.bulk
    (ap (λ b. ahead_of b c.spin-spun.new.self) c.in-Meters.is)

pub meter-turned-requires-clause-fuel : goal.meter-turned-requires-clause-fuel
meter-turned-requires-clause-fuel g c = λ e.
    omega (arith, c.requires.fuel e, ap debt c.spin-spun.ensures.fuel, (c.spin-spun.ensures.spins c.args.owed c.free_turns-free.ensures).within)
