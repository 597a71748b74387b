use Rattle.store_state.specs.Engines.{engine_parts}
use Rattle.code_hosts.specs.Contexts.{moves_in}
use Rattle.code_hosts.proofs.TellLemmas.{unhooked, untold, faults, goes}
use Rattle.code_hosts.proofs.borders.tell.Goals as goal

pub returns-then-not-context-clause-tells : goal.returns-then-not-context-clause-tells
returns-then-not-context-clause-tells g c = λ held.
    unhooked c.args.context.now.program.now c.args.context.now.bounds c.args.context.now.id (engine_parts c.args.context.now.engine.now) (moves_in c.args.context.now g.W.Surroundings.moves)
    c.args.event held c.args.world.now c.args.left c.if-not-context.true

pub returns-then-left-eq0-clause-tells : goal.returns-then-left-eq0-clause-tells
returns-then-left-eq0-clause-tells g c = λ held.
    untold c.args.context.now.program.now c.args.context.now.bounds c.args.context.now.id (engine_parts c.args.context.now.engine.now) (moves_in c.args.context.now g.W.Surroundings.moves)
    c.args.event held c.args.world.now c.args.left
    c.if-not-context.false c.if-left-eq0.true

pub returns-in-Err-clause-tells : goal.returns-in-Err-clause-tells
returns-in-Err-clause-tells g c = λ held.
    faults c.args.context.now.program.now c.args.context.now.bounds c.args.context.now.id (engine_parts c.args.context.now.engine.now) (moves_in c.args.context.now g.W.Surroundings.moves)
    c.args.event held c.args.world.now c.args.left
    c.if-not-context.false c.if-left-eq0.false
    c.ask_hook.new.self _
    (c.if-not-context.false, tt, c.in-Err.ensures)

pub returns-in-Ok-clause-tells : goal.returns-in-Ok-clause-tells
returns-in-Ok-clause-tells g c = λ held.
    goes c.args.context.now.program.now c.args.context.now.bounds c.args.context.now.id (engine_parts c.args.context.now.engine.now) (moves_in c.args.context.now g.W.Surroundings.moves)
    c.args.event held c.args.world.now c.args.left
    c.if-not-context.false c.if-left-eq0.false
    c.ask_hook.new.self _
    (c.if-not-context.false, tt, c.in-Ok.ensures)
