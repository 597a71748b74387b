use Rattle.std.proofs.Common.{sym, ap, ◌∙◌}
use Rattle.std.specs.Prelude.{nat_lt}
use Rattle.std.proofs.lemmas.Bool.{lt-ltb, le-ltb}
use Rattle.code_run.specs.Asking.{Asks}
use Rattle.code_run.proofs.CheckedStoreLemmas.{denied, affirmed, no_epochs, epoch_stops, reading_fails, reading_before, reading_past}
use Rattle.code_run.proofs.checks.on_epoch.Goals as goal

pub returns-then-not-rules-clause-checks : goal.returns-then-not-rules-clause-checks
returns-then-not-rules-clause-checks g c = λ program.
    no_epochs program c.args.rules (Asks c.args.rules g.W.Surroundings.moves)
    c.args.held.now c.args.world.now c.args.left (denied c.args.rules.reads_epochs c.if-not-rules.true)

pub returns-then-left-eq0-clause-checks : goal.returns-then-left-eq0-clause-checks
returns-then-left-eq0-clause-checks g c = λ program.
    epoch_stops program c.args.rules (Asks c.args.rules g.W.Surroundings.moves)
    c.args.held.now c.args.world.now c.args.left (affirmed c.args.rules.reads_epochs c.if-not-rules.false) c.if-left-eq0.true

pub returns-in-Err-clause-checks : goal.returns-in-Err-clause-checks
returns-in-Err-clause-checks g c = λ program.
    reading_fails program c.args.rules (Asks c.args.rules g.W.Surroundings.moves)
    c.args.held.now c.args.world.now c.args.left (affirmed c.args.rules.reads_epochs c.if-not-rules.false) c.if-left-eq0.false
    c.read_epoch.new.self _ (affirmed c.args.rules.reads_epochs c.if-not-rules.false, c.in-Err.ensures)

pub returns-then-reading-deadline-clause-checks : goal.returns-then-reading-deadline-clause-checks
returns-then-reading-deadline-clause-checks g c = λ program.
    reading_before program c.args.rules (Asks c.args.rules g.W.Surroundings.moves)
    c.args.held.now c.args.world.now c.args.left (affirmed c.args.rules.reads_epochs c.if-not-rules.false) c.if-left-eq0.false
    c.read_epoch.new.self c.in-Ok.reading
    (affirmed c.args.rules.reads_epochs c.if-not-rules.false, c.in-Ok.ensures) (ap (λ n. nat_lt c.in-Ok.reading n) (sym c.deadline.ensures)
    ∙ lt-ltb c.in-Ok.reading c.deadline.result c.if-reading-deadline.true)

pub returns-else-reading-deadline-clause-checks : goal.returns-else-reading-deadline-clause-checks
returns-else-reading-deadline-clause-checks g c = λ program.
    reading_past program c.args.rules (Asks c.args.rules g.W.Surroundings.moves)
    c.args.held.now c.args.world.now c.args.left (affirmed c.args.rules.reads_epochs c.if-not-rules.false) c.if-left-eq0.false
    c.read_epoch.new.self c.in-Ok.reading
    (affirmed c.args.rules.reads_epochs c.if-not-rules.false, c.in-Ok.ensures) (ap (λ n. nat_lt c.in-Ok.reading n) (sym c.deadline.ensures)
    ∙ le-ltb c.in-Ok.reading c.deadline.result c.if-reading-deadline.false) c.at_deadline-rest.result
    c.at_deadline-rest.new.held c.at_deadline-rest.new.world
    (c.at_deadline-rest.ensures.checks program)
