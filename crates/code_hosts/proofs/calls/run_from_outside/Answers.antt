use Rattle.std.proofs.Common.{◌+◌}
use Rattle.code_hosts.specs.Contexts.{IsFormedIn, moves_in, opened_in}
use Rattle.code_hosts.specs.Courses.{called_in}
use Rattle.code_hosts.specs.Entering.{calling}
use Rattle.code_hosts.specs.declared.courses.Stage.TheVariants as stage
use Rattle.code_hosts.proofs.CourseLemmas.{comes_ended, goes_as, stays_standing}
use Rattle.code_hosts.proofs.HostedLemmas.{breaks_off, comes_after}
use Rattle.code_hosts.proofs.RoundLemmas.{lacks_on}
use Rattle.code_hosts.proofs.calls.run_from_outside.Goals as goal

pub overflow_sub-left : goal.overflow_sub-left
overflow_sub-left g c = (c.in-Ok.ensures.enters c.args.held.now).within

pub run_to_border-requires-clause-kept : goal.run_to_border-requires-clause-kept
run_to_border-requires-clause-kept g c =
    stays_standing (opened_in c.args.context.now)
    (moves_in c.args.context.now g.W.Surroundings.moves) (IsFormedIn c.args.context.now)
    (calling c.args.function c.args.arguments.now c.args.caller) called_in c.args.held.now c.args.held.now c.args.world.now c.enter.new.world
    c.args.context.now.bounds.turns c.in-Ok.entered.turns c.in-Stands.course
    (goes_as (opened_in c.args.context.now)
    (moves_in c.args.context.now g.W.Surroundings.moves)
    (calling c.args.function c.args.arguments.now c.args.caller) c.args.held.now c.args.world.now c.args.context.now.bounds.turns called_in c.in-Ok.entered
    c.args.held.now c.enter.new.world (c.in-Ok.ensures.enters c.args.held.now) (stage.Stands c.in-Stands.course)
    c.in-Stands.is)
    c.requires.kept

pub returns-in-Ends-clause-reply : goal.returns-in-Ends-clause-reply
returns-in-Ends-clause-reply g c =
    comes_ended (opened_in c.args.context.now)
    (moves_in c.args.context.now g.W.Surroundings.moves)
    (calling c.args.function c.args.arguments.now c.args.caller) c.args.held.now c.args.world.now c.args.context.now.bounds.turns called_in c.in-Ends.how
    c.in-Ok.entered.turns c.args.held.now c.enter.new.world
    (goes_as (opened_in c.args.context.now)
    (moves_in c.args.context.now g.W.Surroundings.moves)
    (calling c.args.function c.args.arguments.now c.args.caller) c.args.held.now c.args.world.now c.args.context.now.bounds.turns called_in c.in-Ok.entered
    c.args.held.now c.enter.new.world (c.in-Ok.ensures.enters c.args.held.now) (stage.Ends c.in-Ends.how)
    c.in-Ends.is)

pub returns-in-Ok-run_to_border-clause-reply : goal.returns-in-Ok-run_to_border-clause-reply
returns-in-Ok-run_to_border-clause-reply g c =
    let x = (goes_as (opened_in c.args.context.now)
    (moves_in c.args.context.now g.W.Surroundings.moves)
    (calling c.args.function c.args.arguments.now c.args.caller) c.args.held.now c.args.world.now c.args.context.now.bounds.turns called_in c.in-Ok.entered
    c.args.held.now c.enter.new.world (c.in-Ok.ensures.enters c.args.held.now) (stage.Stands c.in-Stands.course)
    c.in-Stands.is) in
    comes_after (opened_in c.args.context.now)
    (moves_in c.args.context.now g.W.Surroundings.moves)
    (calling c.args.function c.args.arguments.now c.args.caller) (called_in c.in-Stands.course)
    c.args.held.now c.args.held.now c.args.world.now c.enter.new.world c.args.context.now.bounds.turns
    c.in-Ok.entered.turns x.heard x.within x.chain x.by c.in-Ok-run_to_border.reply
    c.run_to_border.new.held c.run_to_border.new.world c.in-Ok-run_to_border.ensures.reply

pub returns-in-Err-clause-memory : goal.returns-in-Err-clause-memory
returns-in-Err-clause-memory g c =
    breaks_off (opened_in c.args.context.now)
    (moves_in c.args.context.now g.W.Surroundings.moves)
    (calling c.args.function c.args.arguments.now c.args.caller) c.args.held.now c.args.world.now c.args.context.now.bounds.turns
    c.in-Err.lacking.spent c.args.held.now c.enter.new.world c.in-Err.lacking.lack
    (c.in-Err.ensures.lacks c.args.held.now)

pub returns-in-Err-run_to_border-clause-memory : goal.returns-in-Err-run_to_border-clause-memory
returns-in-Err-run_to_border-clause-memory g c =
    let x = (goes_as (opened_in c.args.context.now)
    (moves_in c.args.context.now g.W.Surroundings.moves)
    (calling c.args.function c.args.arguments.now c.args.caller) c.args.held.now c.args.world.now c.args.context.now.bounds.turns called_in c.in-Ok.entered
    c.args.held.now c.enter.new.world (c.in-Ok.ensures.enters c.args.held.now) (stage.Stands c.in-Stands.course)
    c.in-Stands.is) in
    breaks_off (opened_in c.args.context.now)
    (moves_in c.args.context.now g.W.Surroundings.moves)
    (calling c.args.function c.args.arguments.now c.args.caller) c.args.held.now c.args.world.now c.args.context.now.bounds.turns
    (c.in-Ok.entered.turns + c.in-Err-run_to_border.lacking.spent) c.run_to_border.new.held
    c.run_to_border.new.world c.in-Err-run_to_border.lacking.lack
    (lacks_on (opened_in c.args.context.now)
    (moves_in c.args.context.now g.W.Surroundings.moves)
    (calling c.args.function c.args.arguments.now c.args.caller) (called_in c.in-Stands.course)
    c.args.held.now c.args.held.now c.args.world.now c.enter.new.world c.args.context.now.bounds.turns
    c.in-Ok.entered.turns x.heard x.within x.chain x.by c.in-Err-run_to_border.lacking.spent
    c.run_to_border.new.held c.run_to_border.new.world
    c.in-Err-run_to_border.lacking.lack c.in-Err-run_to_border.ensures.lacks)
