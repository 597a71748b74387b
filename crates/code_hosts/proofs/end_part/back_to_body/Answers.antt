use Rattle.store_state.specs.Engines.{engine_parts}
use Rattle.wasm_host.specs.Activations.{activation_of}
use Rattle.code_hosts.specs.Contexts.{moves_in}
use Rattle.code_hosts.proofs.SettleLemmas.{is_end, back_at_once, back_stopped_at, back_on, back_lacks}
use Rattle.code_hosts.proofs.end_part.back_to_body.Goals as goal

pub returns-in-Stuck-clause-goes_on : goal.returns-in-Stuck-clause-goes_on
returns-in-Stuck-clause-goes_on g c = λ held.
    back_at_once c.args.context.now.program.now c.args.context.now.bounds c.args.context.now.id (engine_parts c.args.context.now.engine.now) (moves_in c.args.context.now g.W.Surroundings.moves)
    (activation_of c.args.activation) c.args.types.now c.args.how held
    c.args.world.now c.args.left c.at_once.result.spent
    c.at_once.result.round c.at_once.ensures.spent c.at_once.ensures.round c.in-Stuck.is

pub returns-in-TurnLimit-clause-goes_on : goal.returns-in-TurnLimit-clause-goes_on
returns-in-TurnLimit-clause-goes_on g c = λ held.
    back_stopped_at c.args.context.now.program.now c.args.context.now.bounds c.args.context.now.id (engine_parts c.args.context.now.engine.now) (moves_in c.args.context.now g.W.Surroundings.moves)
    (activation_of c.args.activation) c.args.types.now c.args.how held
    c.args.world.now c.args.left c.tell_behind-told.result
    c.tell_behind-told.new.world
    (c.tell_behind-told.ensures held) c.in-TurnLimit.is

pub returns-in-Ok-clause-goes_on : goal.returns-in-Ok-clause-goes_on
returns-in-Ok-clause-goes_on g c = λ held.
    back_on c.args.context.now.program.now c.args.context.now.bounds c.args.context.now.id (engine_parts c.args.context.now.engine.now) (moves_in c.args.context.now g.W.Surroundings.moves)
    (activation_of c.args.activation) c.args.types.now c.args.how held
    c.args.world.now c.args.left c.tell_behind-told.result
    c.tell_behind-told.new.world
    (c.tell_behind-told.ensures held)
    (is_end c.tell_behind-told.result.how c.in_default-how.not-TurnLimit) c.in-Ok.round c.in-Ok.ensures

pub returns-clause-lacks : goal.returns-clause-lacks
returns-clause-lacks g c = λ held.
    back_lacks c.args.context.now.program.now c.args.context.now.bounds c.args.context.now.id (engine_parts c.args.context.now.engine.now) (moves_in c.args.context.now g.W.Surroundings.moves)
    (activation_of c.args.activation) c.args.types.now c.args.how held
    c.args.world.now c.args.left c.tell_behind-told.result
    c.tell_behind-told.new.world
    (c.tell_behind-told.ensures held)
    (is_end c.tell_behind-told.result.how c.in_default-how.not-TurnLimit) c.lacking.result.spent c.lacking.result.lack
    c.lacking.ensures.spent c.lacking.ensures.lack
