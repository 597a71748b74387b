use Rattle.code_hosts.specs.Contexts.{IsFormedIn, moves_in, opened_in}
use Rattle.code_hosts.specs.Courses.{due_in}
use Rattle.code_hosts.specs.declared.courses.Stage.TheVariants as stage
use Rattle.code_hosts.proofs.CourseLemmas.{comes_ended, comes_left, goes_as, never_stands, stays_within}
use Rattle.code_hosts.proofs.HostedLemmas.{lacks_behind}
use Rattle.code_hosts.proofs.calls.run_to_border.Goals as goal

pub go-requires-clause-kept : goal.go-requires-clause-kept
go-requires-clause-kept g c =
    stays_within (opened_in c.args.context.now)
    (moves_in c.args.context.now g.W.Surroundings.moves) (IsFormedIn c.args.context.now)
    (due_in c.args.course) c.args.held.now c.args.world.now c.args.left c.requires.kept

pub returns-in-Err-clause-lacks : goal.returns-in-Err-clause-lacks
returns-in-Err-clause-lacks g c =
    lacks_behind (opened_in c.args.context.now)
    (moves_in c.args.context.now g.W.Surroundings.moves)
    (due_in c.args.course) c.args.held.now
    c.args.world.now c.args.left
    c.go.new.held c.in-Err.lacking.spent c.in-Err.lacking.lack
    c.go.new.world c.in-Err.ensures.lacks

pub unreachable-unreachable : goal.unreachable-unreachable
unreachable-unreachable g c =
    never_stands c.args.left c.in-Ok.staged c.in-Ok.ensures.goes.within c.requires.few c.in-Stands.field-0
    c.in-Stands.is c.in-Ok.ensures.stands

pub returns-in-Ends-clause-reply : goal.returns-in-Ends-clause-reply
returns-in-Ends-clause-reply g c =
    comes_left (opened_in c.args.context.now)
    (moves_in c.args.context.now g.W.Surroundings.moves)
    (due_in c.args.course) c.args.held.now c.args.world.now c.args.left c.go.new.held c.in-Ends.how
    c.in-Ok.staged.turns c.go.new.world
    (comes_ended (opened_in c.args.context.now)
    (moves_in c.args.context.now g.W.Surroundings.moves)
    (due_in c.args.course) c.args.held.now c.args.world.now c.args.left due_in c.in-Ends.how c.in-Ok.staged.turns
    c.go.new.held c.go.new.world
    (goes_as (opened_in c.args.context.now)
    (moves_in c.args.context.now g.W.Surroundings.moves)
    (due_in c.args.course) c.args.held.now c.args.world.now c.args.left due_in c.in-Ok.staged
    c.go.new.held c.go.new.world c.in-Ok.ensures.goes (stage.Ends c.in-Ends.how) c.in-Ends.is))
    c.leave-behind.result c.leave-behind.new.world (λ e. c.leave-behind.ensures.told e c.go.new.held)
    c.leave-behind.ensures.untold
