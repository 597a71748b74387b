use Rattle.std.proofs.Common.{◌+◌, refl, arith}
use Rattle.store_state.specs.Engines.{engine_parts}
use Rattle.wasm_host.specs.Activations.{activation_of}
use Rattle.wasm_host.specs.Scopes.{scope_of}
use Rattle.code_hosts.proofs.OperationLemmas.{op_misses, op_limit, replies_rounds, replies_lacks, invokes_fits, invokes_short_fits, invokes_rounds, invokes_lacks, few_owed}
use Rattle.code_hosts.proofs.operation_part.ask_operation.Goals as goal

pub returns-in-Err-clause-lacks : goal.returns-in-Err-clause-lacks
returns-in-Err-clause-lacks g c =
    op_misses c.args.context.now.bounds
    g.W.Surroundings.moves g.met.W.HostSurroundings.can_answer
    c.args.context.now.program.now c.args.context.now.id (engine_parts c.args.context.now.engine.now) (activation_of c.args.activation) (scope_of c.scope-scope.result)
    c.scope-scope.ensures (c.args.activation.depth + 1) refl c.args.op c.args.held.now c.args.world.now
    c.args.left c.args.around.now.items
    c.in-Err.unfinished.turns c.operate.new.held c.operate.new.self
    c.in-Err.ensures.misses

pub returns-in-Err-clause-fuel : goal.returns-in-Err-clause-fuel
returns-in-Err-clause-fuel g c =
    few_owed c.args.context.now.bounds c.args.context.now.id (engine_parts c.args.context.now.engine.now) c.requires.rules
    c.args.context.now.program.now c.operate.new.held c.operate.ensures.formed

pub returns-in-Replies-clause-rounds : goal.returns-in-Replies-clause-rounds
returns-in-Replies-clause-rounds g c =
    replies_rounds c.args.context.now.bounds
    g.W.Surroundings.moves g.met.W.HostSurroundings.can_answer
    c.args.context.now.program.now c.args.context.now.id (engine_parts c.args.context.now.engine.now) (activation_of c.args.activation) (scope_of c.scope-scope.result)
    c.scope-scope.ensures (c.args.activation.depth + 1) refl c.args.op c.args.held.now c.args.world.now
    c.args.left c.args.around.now.items
    c.in-Ok.operation c.operate.new.held c.operate.new.self
    c.in-Ok.ensures.operates c.in-Replies.reply c.in-Replies.is
    c.take_reply.result c.later.result c.later.ensures (rw c.in-Replies.reply-is at c.take_reply.ensures.takes)

pub returns-in-Replies-clause-lacks : goal.returns-in-Replies-clause-lacks
returns-in-Replies-clause-lacks g c =
    replies_lacks c.args.context.now.bounds
    g.W.Surroundings.moves g.met.W.HostSurroundings.can_answer
    c.args.context.now.program.now c.args.context.now.id (engine_parts c.args.context.now.engine.now) (activation_of c.args.activation) (scope_of c.scope-scope.result)
    c.scope-scope.ensures (c.args.activation.depth + 1) refl c.args.op c.args.held.now c.args.world.now
    c.args.left c.args.around.now.items
    c.in-Ok.operation c.operate.new.held c.operate.new.self
    c.in-Ok.ensures.operates c.in-Replies.reply c.in-Replies.is
    c.take_reply.result c.later.result c.later.ensures c.take_reply.ensures.lacks

pub returns-in-Replies-clause-fuel : goal.returns-in-Replies-clause-fuel
returns-in-Replies-clause-fuel g c =
    few_owed c.args.context.now.bounds c.args.context.now.id (engine_parts c.args.context.now.engine.now) c.requires.rules
    c.args.context.now.program.now c.operate.new.held c.operate.ensures.formed

pub later-requires-in-Invokes-clause-goes : goal.later-requires-in-Invokes-clause-goes
later-requires-in-Invokes-clause-goes g c =
    invokes_fits c.args.context.now.bounds
    g.W.Surroundings.moves g.met.W.HostSurroundings.can_answer
    c.args.context.now.program.now c.args.context.now.id (engine_parts c.args.context.now.engine.now) (activation_of c.args.activation) (scope_of c.scope-scope.result)
    c.scope-scope.ensures (c.args.activation.depth + 1) refl c.args.op c.args.held.now c.args.world.now
    c.args.left c.args.around.now.items
    c.in-Ok.operation c.operate.new.held c.operate.new.self
    c.in-Ok.ensures.operates c.in-Invokes.invoked c.in-Invokes.is
    c.call_for_body-called.result c.call_for_body-called.new.world
    (omega arith) c.call_for_body-called.new.around.items
    (rw c.in-Invokes.invoked-is at c.call_for_body-called.ensures.rounds)

pub later-requires-in-Invokes-clause-lacks : goal.later-requires-in-Invokes-clause-lacks
later-requires-in-Invokes-clause-lacks g c =
    invokes_short_fits c.args.context.now.bounds
    g.W.Surroundings.moves g.met.W.HostSurroundings.can_answer
    c.args.context.now.program.now c.args.context.now.id (engine_parts c.args.context.now.engine.now) (activation_of c.args.activation) (scope_of c.scope-scope.result)
    c.scope-scope.ensures (c.args.activation.depth + 1) refl c.args.op c.args.held.now c.args.world.now
    c.args.left c.args.around.now.items
    c.in-Ok.operation c.operate.new.held c.operate.new.self
    c.in-Ok.ensures.operates c.in-Invokes.invoked c.in-Invokes.is
    c.call_for_body-called.result c.call_for_body-called.new.world
    (omega arith) (rw c.in-Invokes.invoked-is at c.call_for_body-called.ensures.lacks)

pub returns-in-Invokes-clause-rounds : goal.returns-in-Invokes-clause-rounds
returns-in-Invokes-clause-rounds g c =
    invokes_rounds c.args.context.now.bounds
    g.W.Surroundings.moves g.met.W.HostSurroundings.can_answer
    c.args.context.now.program.now c.args.context.now.id (engine_parts c.args.context.now.engine.now) (activation_of c.args.activation) (scope_of c.scope-scope.result)
    c.scope-scope.ensures (c.args.activation.depth + 1) refl c.args.op c.args.held.now c.args.world.now
    c.args.left c.args.around.now.items
    c.in-Ok.operation c.operate.new.held c.operate.new.self
    c.in-Ok.ensures.operates c.in-Invokes.invoked c.in-Invokes.is
    c.call_for_body-called.result c.call_for_body-called.new.world
    c.later-in-Invokes.result c.later-in-Invokes.ensures c.call_for_body-called.new.around.items
    (rw c.in-Invokes.invoked-is at c.call_for_body-called.ensures.rounds)

pub returns-in-Invokes-clause-lacks : goal.returns-in-Invokes-clause-lacks
returns-in-Invokes-clause-lacks g c =
    invokes_lacks c.args.context.now.bounds
    g.W.Surroundings.moves g.met.W.HostSurroundings.can_answer
    c.args.context.now.program.now c.args.context.now.id (engine_parts c.args.context.now.engine.now) (activation_of c.args.activation) (scope_of c.scope-scope.result)
    c.scope-scope.ensures (c.args.activation.depth + 1) refl c.args.op c.args.held.now c.args.world.now
    c.args.left c.args.around.now.items
    c.in-Ok.operation c.operate.new.held c.operate.new.self
    c.in-Ok.ensures.operates c.in-Invokes.invoked c.in-Invokes.is
    c.call_for_body-called.result c.call_for_body-called.new.world
    c.later-in-Invokes.result c.later-in-Invokes.ensures (rw c.in-Invokes.invoked-is at c.call_for_body-called.ensures.lacks)

pub returns-in-Invokes-clause-fuel : goal.returns-in-Invokes-clause-fuel
returns-in-Invokes-clause-fuel g c =
    few_owed c.args.context.now.bounds c.args.context.now.id (engine_parts c.args.context.now.engine.now) c.requires.rules
    c.args.context.now.program.now c.operate.new.held c.operate.ensures.formed

pub returns-clause-rounds : goal.returns-clause-rounds
returns-clause-rounds g c =
    op_limit c.args.context.now.bounds
    g.W.Surroundings.moves g.met.W.HostSurroundings.can_answer
    c.args.context.now.program.now c.args.context.now.id (engine_parts c.args.context.now.engine.now) (activation_of c.args.activation) (scope_of c.scope-scope.result)
    c.scope-scope.ensures (c.args.activation.depth + 1) refl c.args.op c.args.held.now c.args.world.now
    c.args.left c.args.around.now.items
    c.in-Ok.operation c.operate.new.held c.operate.new.self
    c.in-Ok.ensures.operates c.in-Limit.is

pub returns-clause-fuel : goal.returns-clause-fuel
returns-clause-fuel g c =
    few_owed c.args.context.now.bounds c.args.context.now.id (engine_parts c.args.context.now.engine.now) c.requires.rules
    c.args.context.now.program.now c.operate.new.held c.operate.ensures.formed
