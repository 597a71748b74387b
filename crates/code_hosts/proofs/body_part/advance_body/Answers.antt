use Rattle.wasm_host.specs.Activations.{activation_of}
use Rattle.code_hosts.specs.Contexts.{moves_in, opened_in}
use Rattle.code_hosts.proofs.BodyLemmas.{step_limit, step_waits}
use Rattle.code_hosts.proofs.body_part.advance_body.Goals as goal

pub returns-then-left-eq0-clause-rounds : goal.returns-then-left-eq0-clause-rounds
returns-then-left-eq0-clause-rounds g c =
    step_limit (opened_in c.args.context.now)
    (moves_in c.args.context.now g.W.Surroundings.moves)
    (activation_of c.args.activation) c.args.event c.args.held.now c.args.world.now c.args.left c.args.around.now.items c.if-left-eq0.true

pub returns-then-activation-eq18446744073709551615-clause-lacks : goal.returns-then-activation-eq18446744073709551615-clause-lacks
returns-then-activation-eq18446744073709551615-clause-lacks g c =
    step_waits (opened_in c.args.context.now)
    (moves_in c.args.context.now g.W.Surroundings.moves)
    (activation_of c.args.activation) c.args.event c.args.held.now c.args.world.now c.args.left c.args.around.now.items
