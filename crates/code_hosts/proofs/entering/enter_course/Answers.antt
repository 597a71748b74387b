use Rattle.std.proofs.Common.{[], refl, arith}
use Rattle.store_state.specs.Parts.{held_nothing}
use Rattle.code_hosts.specs.Contexts.{moves_in, opened_in}
use Rattle.code_hosts.specs.Courses.{called_in}
use Rattle.code_hosts.specs.Entering.{entering, returned}
use Rattle.code_hosts.specs.declared.replies.How.TheVariants as how
use Rattle.code_hosts.specs.declared.rounds.Lack.TheVariants as lack
use Rattle.code_hosts.specs.declared.rounds.Round.TheVariants as round
use Rattle.code_hosts.proofs.CourseLemmas.{comes_left, goes_ended, goes_entered}
use Rattle.code_hosts.proofs.FitLemmas.{stays_along}
use Rattle.code_hosts.proofs.GoingLemmas.{comes_late, comes_so, rounds_as}
use Rattle.code_hosts.proofs.HostedLemmas.{reply, comes_untold, lacks_behind, lacks_first}
use Rattle.code_hosts.proofs.entering.enter_course.Goals as goal

pub overflow_sub-left : goal.overflow_sub-left
overflow_sub-left g c = (c.in-Ok.ensures.enters held_nothing).within

pub leave-behind-requires : goal.leave-behind-requires
leave-behind-requires g c =
    let x = c.in-Ok.ensures.enters held_nothing in
    record {
      fits =
          stays_along g.W.Surroundings.moves g.W.HostSurroundings.fits g.met.W.HostSurroundings.stays_fit
          c.args.context.now c.args.world.now x.heard c.enter_function.new.world x.chain c.requires.fits;
    }

pub returns-in-Err-clause-fits : goal.returns-in-Err-clause-fits
returns-in-Err-clause-fits g c =
    let x = c.in-Err.ensures.waits held_nothing in
    stays_along g.W.Surroundings.moves g.W.HostSurroundings.fits g.met.W.HostSurroundings.stays_fit c.args.context.now
    c.args.world.now x.heard c.enter_function.new.world x.chain c.requires.fits

pub returns-in-Goes-clause-fits : goal.returns-in-Goes-clause-fits
returns-in-Goes-clause-fits g c =
    let x = c.in-Ok.ensures.enters held_nothing in
    stays_along g.W.Surroundings.moves g.W.HostSurroundings.fits g.met.W.HostSurroundings.stays_fit c.args.context.now
    c.args.world.now x.heard c.enter_function.new.world x.chain c.requires.fits

pub returns-in-Limit-clause-fits : goal.returns-in-Limit-clause-fits
returns-in-Limit-clause-fits g c =
    let x = c.in-Ok.ensures.enters held_nothing in
    stays_along g.W.Surroundings.moves g.W.HostSurroundings.fits g.met.W.HostSurroundings.stays_fit c.args.context.now
    c.args.world.now x.heard c.enter_function.new.world x.chain c.requires.fits

pub returns-in-Err-clause-lacks : goal.returns-in-Err-clause-lacks
returns-in-Err-clause-lacks g c = λ held.
    lacks_behind (opened_in c.args.context.now)
    (moves_in c.args.context.now g.W.Surroundings.moves)
    (entering c.args.function c.args.arguments.now c.args.caller) held c.args.world.now c.args.left held 0 lack.Run c.enter_function.new.world
    (lacks_first (opened_in c.args.context.now)
    (moves_in c.args.context.now g.W.Surroundings.moves)
    (entering c.args.function c.args.arguments.now c.args.caller) held c.args.world.now c.args.left c.enter_function.new.world (c.in-Err.ensures.waits held))

pub returns-in-Goes-clause-enters : goal.returns-in-Goes-clause-enters
returns-in-Goes-clause-enters g c = λ held.
    goes_entered (opened_in c.args.context.now)
    (moves_in c.args.context.now g.W.Surroundings.moves)
    (entering c.args.function c.args.arguments.now c.args.caller) held c.args.world.now c.args.left held c.in-Ok.entered.spent c.in-Goes.at_work
    c.new-around.result c.enter_function.new.world c.new-around.ensures.items
    (rounds_as (opened_in c.args.context.now)
    (moves_in c.args.context.now g.W.Surroundings.moves)
    (entering c.args.function c.args.arguments.now c.args.caller) held c.args.world.now c.args.left c.in-Ok.entered.spent c.in-Ok.entered.round [] held
    c.enter_function.new.world (c.in-Ok.ensures.enters held) (round.Goes c.in-Goes.at_work) c.in-Goes.is)

pub returns-in-Limit-clause-enters : goal.returns-in-Limit-clause-enters
returns-in-Limit-clause-enters g c = λ held.
    goes_ended (opened_in c.args.context.now)
    (moves_in c.args.context.now g.W.Surroundings.moves)
    (returned (entering c.args.function c.args.arguments.now c.args.caller)) held c.args.world.now c.args.left called_in how.TurnLimit c.in-Ok.entered.spent held
    c.enter_function.new.world
    (comes_untold (opened_in c.args.context.now)
    (moves_in c.args.context.now g.W.Surroundings.moves)
    (entering c.args.function c.args.arguments.now c.args.caller) held c.args.world.now c.args.left held (reply how.TurnLimit c.in-Ok.entered.spent)
    c.enter_function.new.world refl
    (comes_late (opened_in c.args.context.now)
    (moves_in c.args.context.now g.W.Surroundings.moves)
    (entering c.args.function c.args.arguments.now c.args.caller) held c.args.world.now c.args.left c.in-Ok.entered.spent c.in-Ok.entered.round [] held
    c.enter_function.new.world (c.in-Ok.ensures.enters held) c.in-Limit.is))

pub returns-in-Ends-clause-enters : goal.returns-in-Ends-clause-enters
returns-in-Ends-clause-enters g c = λ held.
    goes_ended (opened_in c.args.context.now)
    (moves_in c.args.context.now g.W.Surroundings.moves)
    (returned (entering c.args.function c.args.arguments.now c.args.caller)) held c.args.world.now c.args.left called_in c.leave-behind.result.how _ held
    c.leave-behind.new.world
    (comes_left (opened_in c.args.context.now)
    (moves_in c.args.context.now g.W.Surroundings.moves)
    (entering c.args.function c.args.arguments.now c.args.caller) held c.args.world.now c.args.left held c.in-Ends.how c.in-Ok.entered.spent c.enter_function.new.world
    (comes_so (opened_in c.args.context.now)
    (moves_in c.args.context.now g.W.Surroundings.moves)
    (entering c.args.function c.args.arguments.now c.args.caller) held c.args.world.now c.args.left c.in-Ok.entered.spent c.in-Ok.entered.round [] held
    c.enter_function.new.world (c.in-Ok.ensures.enters held) c.in-Ends.how c.in-Ends.is refl)
    c.leave-behind.result c.leave-behind.new.world (λ e. c.leave-behind.ensures.told e held)
    c.leave-behind.ensures.untold)

pub overflow_add-result : goal.overflow_add-result
overflow_add-result g c =
    omega (arith, c.requires.few, (c.in-Ok.ensures.enters held_nothing).within, c.leave-behind.ensures.within)
