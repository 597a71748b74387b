use Rattle.std.proofs.Common.{None}
use Rattle.spec_execution.specs.Bodies.{exec}
use Rattle.spec_execution.specs.Entering.{enter}
use Rattle.code_hosts.specs.Contexts.{moves_in, opened_in}
use Rattle.code_hosts.proofs.InvokeLemmas.{invoke_waits, invoke_lacks, invoke_rounds}
use Rattle.code_hosts.proofs.call_part.enter_for_body.Goals as goal

pub returns-in_default-clause-lacks : goal.returns-in_default-clause-lacks
returns-in_default-clause-lacks g c = λ held.
    invoke_waits (opened_in c.args.context.now)
    (moves_in c.args.context.now g.W.Surroundings.moves)
    c.args.waiting (λ w. enter exec c.args.depth c.args.invoked.function c.args.invoked.arguments.items None w)
    held c.args.world.now c.args.left c.args.around.now.items c.enter_function.new.world
    (rw c.as_slice.ensures.value at (c.in_default.ensures.waits held))

pub returns-in-Ok-push-clause-rounds : goal.returns-in-Ok-push-clause-rounds
returns-in-Ok-push-clause-rounds g c = λ held.
    invoke_rounds (opened_in c.args.context.now)
    (moves_in c.args.context.now g.W.Surroundings.moves)
    c.args.waiting (λ w. enter exec c.args.depth c.args.invoked.function c.args.invoked.arguments.items None w)
    held c.args.world.now c.args.left c.args.around.now.items
    c.in-Ok.entered.spent c.in-Ok.entered.round c.enter_function.new.world
    (rw c.as_slice.ensures.value at (c.in-Ok.ensures.enters held)) c.push.new.self.items c.in-Ok-push.ensures.items

pub returns-clause-lacks : goal.returns-clause-lacks
returns-clause-lacks g c = λ held.
    invoke_lacks (opened_in c.args.context.now)
    (moves_in c.args.context.now g.W.Surroundings.moves)
    c.args.waiting (λ w. enter exec c.args.depth c.args.invoked.function c.args.invoked.arguments.items None w)
    held c.args.world.now c.args.left c.args.around.now.items
    c.in-Ok.entered.spent c.in-Ok.entered.round c.enter_function.new.world
    (rw c.as_slice.ensures.value at (c.in-Ok.ensures.enters held))
