use Rattle.code_run.specs.Asking.{Asks}
use Rattle.code_run.proofs.CheckedStoreLemmas.{denied, affirmed, interrupts, deadline_stops, behaviour_fails, behaviour_interrupts, behaviour_continues}
use Rattle.code_run.proofs.checks.at_deadline.Goals as goal

pub returns-then-not-rules-clause-checks : goal.returns-then-not-rules-clause-checks
returns-then-not-rules-clause-checks g c = λ program.
    interrupts program c.args.rules (Asks c.args.rules g.W.Surroundings.moves)
    c.args.held.now c.args.world.now c.args.left c.requires (denied c.args.rules.behaving c.if-not-rules.true)

pub returns-then-left-eq0-clause-checks : goal.returns-then-left-eq0-clause-checks
returns-then-left-eq0-clause-checks g c = λ program.
    deadline_stops program c.args.rules (Asks c.args.rules g.W.Surroundings.moves)
    c.args.held.now c.args.world.now c.args.left c.requires (affirmed c.args.rules.behaving c.if-not-rules.false) c.if-left-eq0.true

pub returns-in-Err-clause-checks : goal.returns-in-Err-clause-checks
returns-in-Err-clause-checks g c = λ program.
    behaviour_fails program c.args.rules (Asks c.args.rules g.W.Surroundings.moves)
    c.args.held.now c.args.world.now c.args.left c.requires (affirmed c.args.rules.behaving c.if-not-rules.false) c.if-left-eq0.false
    c.ask_behaviour.new.self _ (c.requires, affirmed c.args.rules.behaving c.if-not-rules.false, c.in-Err.ensures)

pub returns-in-Ok-Interrupt-clause-checks : goal.returns-in-Ok-Interrupt-clause-checks
returns-in-Ok-Interrupt-clause-checks g c = λ program.
    behaviour_interrupts program c.args.rules (Asks c.args.rules g.W.Surroundings.moves)
    c.args.held.now c.args.world.now c.args.left c.requires (affirmed c.args.rules.behaving c.if-not-rules.false) c.if-left-eq0.false
    c.ask_behaviour.new.self
    (c.requires, affirmed c.args.rules.behaving c.if-not-rules.false, rw c.in-Ok-Interrupt.field-0-is at c.in-Ok-Interrupt.ensures)

pub returns-in-Ok-Continue-clause-checks : goal.returns-in-Ok-Continue-clause-checks
returns-in-Ok-Continue-clause-checks g c = λ program.
    behaviour_continues program c.args.rules (Asks c.args.rules g.W.Surroundings.moves)
    c.args.held.now c.args.world.now c.args.left c.requires (affirmed c.args.rules.behaving c.if-not-rules.false) c.if-left-eq0.false
    c.ask_behaviour.new.self c.in-Ok-Continue.ticks
    (c.requires, affirmed c.args.rules.behaving c.if-not-rules.false, rw c.in-Ok-Continue.field-0-is at c.in-Ok-Continue.ensures) c.renew-rest.result
    c.renew-rest.new.held c.renew-rest.new.world
    (c.renew-rest.ensures.checks program)
