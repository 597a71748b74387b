use Rattle.std.proofs.Common.{arith}
use Rattle.spec_execution.specs.Bodies.{exec}
use Rattle.spec_execution.specs.Hosts.{said}
use Rattle.wasm_host.specs.Activations.{activation_of}
use Rattle.code_hosts.specs.Contexts.{moves_in, opened_in}
use Rattle.code_hosts.specs.Parting.{awaited, bordered}
use Rattle.code_hosts.proofs.GoingLemmas.{settled_on, settled_short}
use Rattle.code_hosts.proofs.saying.heed_part.Goals as goal

pub overflow_add-result : goal.overflow_add-result
overflow_add-result g c =
    omega (
      arith,
      c.requires.few,
      c.in-Ok.ensures.rounds.within,
      (c.in-Ok-settle.ensures.settles c.heed.new.held).within,
    )

pub overflow_add-result-in-Err-settle : goal.overflow_add-result-in-Err-settle
overflow_add-result-in-Err-settle g c =
    omega (
      arith,
      c.requires.few,
      c.in-Ok.ensures.rounds.within,
      (c.in-Err-settle.ensures.lacks c.heed.new.held).within,
    )

pub returns-in-Ok-settle-clause-rounds : goal.returns-in-Ok-settle-clause-rounds
returns-in-Ok-settle-clause-rounds g c =
    settled_on (opened_in c.args.context.now)
    (moves_in c.args.context.now g.W.Surroundings.moves)
    (awaited c.args.around.now.items (bordered (said exec (activation_of c.args.activation) c.args.what))) c.args.held.now
    c.args.world.now c.args.left c.in-Ok.rounded.spent c.in-Ok.rounded.round
    c.heed.new.around.items c.heed.new.held
    c.heed.new.world c.in-Ok.ensures.rounds c.in-Ends.how c.in-Ends.is
    c.in-Ok-settle.settled.spent c.settle.new.world
    c.in-Ok-settle.settled.round c.settle.new.around.items
    (c.in-Ok-settle.ensures.settles c.heed.new.held)

pub returns-in-Err-settle-clause-lacks : goal.returns-in-Err-settle-clause-lacks
returns-in-Err-settle-clause-lacks g c =
    settled_short (opened_in c.args.context.now)
    (moves_in c.args.context.now g.W.Surroundings.moves)
    (awaited c.args.around.now.items (bordered (said exec (activation_of c.args.activation) c.args.what))) c.args.held.now
    c.args.world.now c.args.left c.in-Ok.rounded.spent c.in-Ok.rounded.round
    c.heed.new.around.items c.heed.new.held
    c.heed.new.world c.in-Ok.ensures.rounds c.in-Ends.how c.in-Ends.is
    c.in-Err-settle.lacking.spent c.settle.new.world
    c.in-Err-settle.lacking.lack
    (c.in-Err-settle.ensures.lacks c.heed.new.held)
