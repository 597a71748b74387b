use Rattle.code_hosts.specs.Contexts.{moves_in, opened_in}
use Rattle.code_hosts.proofs.CodeLemmas.{call_waits, call_opens, call_lacks, call_fails, call_limit}
use Rattle.code_hosts.proofs.code_part.call_body.Goals as goal

pub returns-in_default-clause-lacks : goal.returns-in_default-clause-lacks
returns-in_default-clause-lacks g c = λ held.
    call_waits (opened_in c.args.context.now) (moves_in c.args.context.now g.W.Surroundings.moves)
    c.args.thread c.args.call held c.args.world.now c.args.left
    c.args.around.now.items c.depth.result c.arguments.result.now c.instance.result c.as_ref-code.result.now
    c.as_ref-code.ensures c.depth.ensures c.arguments.ensures
    c.instance.ensures c.enter_body.new.world
    (c.in_default.ensures.waits held)

pub returns-in-Ok-push-clause-rounds : goal.returns-in-Ok-push-clause-rounds
returns-in-Ok-push-clause-rounds g c = λ held.
    rw c.in-Opens.activation-is
    (call_opens (opened_in c.args.context.now) (moves_in c.args.context.now g.W.Surroundings.moves)
    c.args.thread c.args.call held c.args.world.now c.args.left
    c.args.around.now.items c.depth.result c.arguments.result.now c.instance.result c.as_ref-code.result.now
    c.as_ref-code.ensures c.depth.ensures c.arguments.ensures
    c.instance.ensures c.in-Ok.entered c.enter_body.new.world
    (c.in-Ok.ensures.enters held) c.in-Opens.activation c.in-Opens.is c.push.new.self.items
    c.in-Ok-push.ensures.items)

pub returns-in-Opens-clause-lacks : goal.returns-in-Opens-clause-lacks
returns-in-Opens-clause-lacks g c = λ held.
    call_lacks (opened_in c.args.context.now) (moves_in c.args.context.now g.W.Surroundings.moves)
    c.args.thread c.args.call held c.args.world.now c.args.left
    c.args.around.now.items c.depth.result c.arguments.result.now c.instance.result c.as_ref-code.result.now
    c.as_ref-code.ensures c.depth.ensures c.arguments.ensures
    c.instance.ensures c.in-Ok.entered c.enter_body.new.world
    (c.in-Ok.ensures.enters held) c.in-Opens.activation c.in-Opens.is

pub returns-in-Fails-clause-rounds : goal.returns-in-Fails-clause-rounds
returns-in-Fails-clause-rounds g c = λ held.
    call_fails (opened_in c.args.context.now) (moves_in c.args.context.now g.W.Surroundings.moves)
    c.args.thread c.args.call held c.args.world.now c.args.left
    c.args.around.now.items c.depth.result c.arguments.result.now c.instance.result c.as_ref-code.result.now
    c.as_ref-code.ensures c.depth.ensures c.arguments.ensures
    c.instance.ensures c.in-Ok.entered c.enter_body.new.world
    (c.in-Ok.ensures.enters held) c.in-Fails.fault c.in-Fails.is c.how_of.result c.how_of.ensures.ended
    c.how_of.ensures.end

pub returns-clause-rounds : goal.returns-clause-rounds
returns-clause-rounds g c = λ held.
    call_limit (opened_in c.args.context.now) (moves_in c.args.context.now g.W.Surroundings.moves)
    c.args.thread c.args.call held c.args.world.now c.args.left
    c.args.around.now.items c.depth.result c.arguments.result.now c.instance.result c.as_ref-code.result.now
    c.as_ref-code.ensures c.depth.ensures c.arguments.ensures
    c.instance.ensures c.in-Ok.entered c.enter_body.new.world
    (c.in-Ok.ensures.enters held) c.in-Limit.is
