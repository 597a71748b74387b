use Rattle.code_hosts.specs.Contexts.{moves_in, opened_in}
use Rattle.code_hosts.proofs.BehindLemmas.{passes_so, passes_no, passes_late}
use Rattle.code_hosts.proofs.borders.tell_behind.Goals as goal

pub returns-in-Passes : goal.returns-in-Passes
returns-in-Passes g c = λ held.
    passes_so (opened_in c.args.context.now) (moves_in c.args.context.now g.W.Surroundings.moves)
    c.args.event c.args.how c.requires.told held c.args.world.now
    c.args.left c.tell-told.result.spent c.tell-told.result.word
    c.tell-told.new.world
    (c.tell-told.ensures.tells held) c.in-Passes.is

pub returns-in-Fails : goal.returns-in-Fails
returns-in-Fails g c = λ held.
    passes_no (opened_in c.args.context.now) (moves_in c.args.context.now g.W.Surroundings.moves)
    c.args.event c.args.how c.requires.told held c.args.world.now
    c.args.left c.tell-told.result.spent c.tell-told.result.word
    c.tell-told.new.world
    (c.tell-told.ensures.tells held) c.in-Fails.is

pub returns-in-Limit : goal.returns-in-Limit
returns-in-Limit g c = λ held.
    passes_late (opened_in c.args.context.now) (moves_in c.args.context.now g.W.Surroundings.moves)
    c.args.event c.args.how c.requires.told held c.args.world.now
    c.args.left c.tell-told.result.spent c.tell-told.result.word
    c.tell-told.new.world
    (c.tell-told.ensures.tells held) c.in-Limit.is
