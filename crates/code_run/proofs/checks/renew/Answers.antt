use Rattle.code_run.specs.Asking.{Asks}
use Rattle.code_run.proofs.CheckedStoreLemmas.{renew_stops, renew_fails, renew_passes}
use Rattle.code_run.proofs.checks.renew.Goals as goal

pub returns-then-left-eq0-clause-checks : goal.returns-then-left-eq0-clause-checks
returns-then-left-eq0-clause-checks g c = λ program.
    renew_stops program c.args.rules (Asks c.args.rules g.W.Surroundings.moves)
    c.args.held.now c.args.world.now c.args.left c.args.ticks c.if-left-eq0.true

pub returns-in-Err-clause-checks : goal.returns-in-Err-clause-checks
returns-in-Err-clause-checks g c = λ program.
    renew_fails program c.args.rules (Asks c.args.rules g.W.Surroundings.moves)
    c.args.held.now c.args.world.now c.args.left c.args.ticks c.if-left-eq0.false
    c.read_epoch.new.self _ (c.requires, c.in-Err.ensures)

pub returns-in-Ok-clause-checks : goal.returns-in-Ok-clause-checks
returns-in-Ok-clause-checks g c = λ program.
    renew_passes program c.args.rules (Asks c.args.rules g.W.Surroundings.moves)
    c.args.held.now c.args.world.now c.args.left c.args.ticks c.if-left-eq0.false
    c.read_epoch.new.self c.in-Ok.reading (c.requires, c.in-Ok.ensures)
    c.set_deadline.new.self c.set_deadline.ensures
