use Rattle.std.proofs.Common.{◌+◌, ap, ◌∙◌}
use Rattle.spec_machine.specs.FuelCalls.{move_deadline}
use Rattle.spec_machine.specs.declared.reply.Reply.TheVariants.{Done}
use Rattle.wasm_store.specs.Stores.{StoreParts}
use Rattle.wasm_call.proofs.DeadlineLemmas.{reading_failed, reading_limited, reading_dated}
use Rattle.wasm_call.proofs.fuel.set_deadline.Goals as goal

pub returns-in_default-clause-answered : goal.returns-in_default-clause-answered
returns-in_default-clause-answered g c =
    reading_failed g.T.ResourceLimiter.growths g.E.EpochSource.readings c.args.limit
    (move_deadline c.args.store.now.machine c.args.ticks) Done c.args.store.now
    c.set_turns.new.store c.args.epochs.now c.current.new.self
    (ap (λ (s : StoreParts _). s.host_data) c.set_turns.ensures) c.requires.some_turns c.in_default.field-0
    c.in_default.ensures
    (ap (λ (s : StoreParts _). s.turns) c.set_turns.ensures) (ap (λ (s : StoreParts _). s.machine) c.set_turns.ensures)

pub returns-then-limit-eq1-clause-answered : goal.returns-then-limit-eq1-clause-answered
returns-then-limit-eq1-clause-answered g c =
    reading_limited g.T.ResourceLimiter.growths g.E.EpochSource.readings c.args.limit
    (move_deadline c.args.store.now.machine c.args.ticks) Done c.args.store.now
    c.set_turns.new.store c.args.epochs.now c.current.new.self
    (ap (λ (s : StoreParts _). s.host_data) c.set_turns.ensures) c.requires.some_turns c.in-Ok.reading
    c.in-Ok.ensures
    c.if-limit-eq1.true
    (ap (λ (s : StoreParts _). s.turns) c.set_turns.ensures) (ap (λ (s : StoreParts _). s.machine) c.set_turns.ensures)

pub returns-clause-answered : goal.returns-clause-answered
returns-clause-answered g c =
    reading_dated g.T.ResourceLimiter.growths g.E.EpochSource.readings c.args.limit
    (move_deadline c.args.store.now.machine c.args.ticks) Done c.args.store.now
    c.count_act.new.store c.args.epochs.now c.current.new.self
    (ap (λ (s : StoreParts _). s.host_data) c.count_act.ensures
    ∙ ap (λ (s : StoreParts _). s.host_data) c.move_deadline.ensures
    ∙ ap (λ (s : StoreParts _). s.host_data) c.set_turns.ensures) c.requires.some_turns c.in-Ok.reading
    c.in-Ok.ensures
    c.if-limit-eq1.false
    (ap (λ (s : StoreParts _). s.turns) c.count_act.ensures
    ∙ ap (λ (s : StoreParts _). s.turns + 1) c.move_deadline.ensures
    ∙ ap (λ (s : StoreParts _). s.turns + 1) c.set_turns.ensures)
    (ap (λ (s : StoreParts _). s.machine) c.count_act.ensures
    ∙ ap (λ (s : StoreParts _). s.machine) c.move_deadline.ensures
    ∙ ap (λ (s : StoreParts _). move_deadline s.machine c.args.ticks c.in-Ok.reading) c.set_turns.ensures)
