use Rattle.code_run.specs.Asking.{Asks}
use Rattle.code_run.proofs.CheckedStoreLemmas.{out_of_fuel, fuelled_passes}
use Rattle.code_run.proofs.checks.check.Goals as goal

pub returns-then-lacks_fuel-clause-checks : goal.returns-then-lacks_fuel-clause-checks
returns-then-lacks_fuel-clause-checks g c =
    rw c.if-lacks_fuel.ensures.same (λ program.
    out_of_fuel program c.args.rules (Asks c.args.rules g.W.Surroundings.moves)
    c.args.held.now c.args.world.now c.args.left c.if-lacks_fuel.ensures.answer)

pub returns-clause-checks : goal.returns-clause-checks
returns-clause-checks g c = λ program.
    fuelled_passes program c.args.rules (Asks c.args.rules g.W.Surroundings.moves)
    c.args.held.now c.args.world.now c.args.left c.if-lacks_fuel.ensures.answer c.on_epoch.result
    c.on_epoch.new.held c.on_epoch.new.world
    (rw c.if-lacks_fuel.ensures.same at (c.on_epoch.ensures.checks program))
