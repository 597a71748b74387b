use Rattle.std.proofs.Common.{sym, subst, Bool}
use Rattle.code_run.specs.Asking.{Asks, ruled_in}
use Rattle.code_leaps.specs.Running.{charged}
use Rattle.code_run.specs.Steps.{seen}
use Rattle.code_leaps.specs.Turns.{going, Turns}
use Rattle.code_run.proofs.thread.Thread.round.Goals as goal

pub returns-then-checks-clause-turns : goal.returns-then-checks-clause-turns
returns-then-checks-clause-turns g c =
    subst (λ (b : Bool). Turns (ruled_in c.args.context.now)
    (Asks c.args.context.now.rules g.W.Surroundings.moves)
    (going b (seen c.args.self.now)) (charged c.args.context.now.rules.consumes_fuel c.args.held.now c.args.owed)
    c.args.world.now c.args.most.left c.turn_checked.result.what c.turn_checked.result.spent
    (seen c.turn_checked.new.self) (charged c.args.context.now.rules.consumes_fuel c.turn_checked.new.held c.turn_checked.result.owed)
    c.turn_checked.new.world) (sym c.if-checks.true) c.turn_checked.ensures.turns

pub returns-else-checks-clause-turns : goal.returns-else-checks-clause-turns
returns-else-checks-clause-turns g c =
    subst (λ (b : Bool). Turns (ruled_in c.args.context.now)
    (Asks c.args.context.now.rules g.W.Surroundings.moves)
    (going b (seen c.args.self.now)) (charged c.args.context.now.rules.consumes_fuel c.args.held.now c.args.owed)
    c.args.world.now c.args.most.left c.turn.result.what c.turn.result.spent
    (seen c.turn.new.self) (charged c.args.context.now.rules.consumes_fuel c.turn.new.held c.turn.result.owed)
    c.turn.new.world) (sym c.if-checks.false) c.turn.ensures.turns
