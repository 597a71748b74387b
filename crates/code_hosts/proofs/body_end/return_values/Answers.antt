use Rattle.code_hosts.specs.Contexts.{moves_in, opened_in}
use Rattle.code_hosts.proofs.LeaveLemmas.{return_lacks, returns_rounds}
use Rattle.code_hosts.proofs.body_end.return_values.Goals as goal

pub returns-in_default-clause-lacks : goal.returns-in_default-clause-lacks
returns-in_default-clause-lacks g c = λ around.
    rw c.returned.ensures.same (return_lacks (opened_in c.args.context.now)
    (moves_in c.args.context.now g.W.Surroundings.moves)
    c.args.types.now c.args.vals.now c.args.held.now c.args.world.now
    c.args.left around c.returned.new.held c.returned.ensures.stays)

pub returns-clause-rounds : goal.returns-clause-rounds
returns-clause-rounds g c = λ around.
    returns_rounds (opened_in c.args.context.now)
    (moves_in c.args.context.now g.W.Surroundings.moves)
    c.args.types.now c.args.vals.now c.args.held.now c.args.world.now
    c.args.left around c.in-Ok.how
    c.returned.new.held c.in-Ok.ensures.returns c.leave_body.result.spent c.leave_body.result.round
    c.leave_body.new.world
    (rw c.returned.ensures.same at (c.leave_body.ensures.leaves c.returned.new.held around))
