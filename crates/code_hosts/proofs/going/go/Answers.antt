use Rattle.std.proofs.Common.{◌+◌, ◌-◌, arith}
use Rattle.code_hosts.specs.Contexts.{moves_in, opened_in}
use Rattle.code_hosts.specs.Courses.{due_in}
use Rattle.code_hosts.specs.States.{due_of}
use Rattle.code_hosts.specs.declared.replies.How.TheVariants as how
use Rattle.code_hosts.specs.declared.rounds.Round.TheVariants as round
use Rattle.code_hosts.proofs.CourseLemmas.{goes_ended, goes_standing}
use Rattle.code_hosts.proofs.FitLemmas.{stays_along}
use Rattle.code_hosts.proofs.GoingLemmas.{comes_late, comes_so, halts_here, last_is, part_on, part_short, passes_by, rounds_as}
use Rattle.code_run.proofs.Runs.{passes_none}
use Rattle.code_hosts.proofs.going.go.Goals as goal

pub parts-init : goal.parts-init
parts-init g c = record {
  within = omega arith;
  fuel = λ e. omega (arith, c.requires.fuel e);
  passes =
      passes_none (opened_in c.args.context.now)
      (moves_in c.args.context.now g.W.Surroundings.moves) (due_in c.args.course) c.args.held.now
      c.args.world.now;
}

pub run_part-requires-clause-formed : goal.run_part-requires-clause-formed
run_part-requires-clause-formed g c = λ body.
    c.requires.kept c.parts.made c.parts.invariant.passes.heard c.parts.held
    c.parts.world c.parts.invariant.within c.parts.invariant.passes.chain
    (halts_here (opened_in c.args.context.now)
    (moves_in c.args.context.now g.W.Surroundings.moves) (due_in c.args.course) c.args.held.now
    c.args.world.now c.args.left
    c.parts.made c.parts.now c.parts.around.items c.parts.held
    c.parts.world c.parts.invariant.passes)

pub run_part-requires-clause-fits : goal.run_part-requires-clause-fits
run_part-requires-clause-fits g c =
    stays_along g.W.Surroundings.moves g.W.HostSurroundings.fits g.met.W.HostSurroundings.stays_fit c.args.context.now
    c.args.world.now c.parts.invariant.passes.heard c.parts.world c.parts.invariant.passes.chain c.requires.fits

pub returns-then-is_to_stand-clause-goes : goal.returns-then-is_to_stand-clause-goes
returns-then-is_to_stand-clause-goes g c =
    goes_standing (opened_in c.args.context.now)
    (moves_in c.args.context.now g.W.Surroundings.moves) (due_in c.args.course) c.args.held.now
    c.args.world.now c.args.left c.parts.made _ c.parts.held c.parts.world c.parts.invariant.within
    c.parts.invariant.passes

pub returns-in-Err-clause-lacks : goal.returns-in-Err-clause-lacks
returns-in-Err-clause-lacks g c =
    part_short (opened_in c.args.context.now)
    (moves_in c.args.context.now g.W.Surroundings.moves) (due_in c.args.course) c.args.held.now
    c.args.world.now c.args.left c.parts.made c.parts.now c.parts.around.items c.parts.held
    c.parts.world c.parts.invariant.passes
    c.parts.invariant.within c.in-Err.lacking.spent c.run_part.new.held
    c.run_part.new.world c.in-Err.lacking.lack
    c.in-Err.ensures.lacks

pub parts-preserved : goal.parts-preserved
parts-preserved g c = record {
  within = omega (arith, c.parts.invariant.within, c.in-Ok.ensures.rounds.within);
  fuel = λ e. omega (arith, c.parts.invariant.within, c.in-Ok.ensures.rounds.within, c.in-Ok.ensures.fuel e);
  passes =
      passes_by (opened_in c.args.context.now)
      (moves_in c.args.context.now g.W.Surroundings.moves) (due_in c.args.course) c.args.held.now
      c.args.world.now c.args.left (c.parts.made + c.in-Ok.rounded.spent)
      c.in-Goes.next c.run_part.new.around.items c.run_part.new.held
      c.run_part.new.world
      (part_on (opened_in c.args.context.now)
      (moves_in c.args.context.now g.W.Surroundings.moves) (due_in c.args.course) c.args.held.now
      c.args.world.now c.args.left c.parts.made c.parts.now c.parts.around.items c.parts.held
      c.parts.world c.parts.invariant.passes
      c.parts.invariant.within c.in-Ok.rounded.spent c.run_part.new.held
      c.run_part.new.world (round.Goes c.in-Goes.next) c.run_part.new.around.items
      (rounds_as (opened_in c.args.context.now)
      (moves_in c.args.context.now g.W.Surroundings.moves)
      (due_of c.parts.now c.parts.around.items) c.parts.held c.parts.world (c.args.left - c.parts.made)
      c.in-Ok.rounded.spent c.in-Ok.rounded.round c.run_part.new.around.items c.run_part.new.held
      c.run_part.new.world c.in-Ok.ensures.rounds (round.Goes c.in-Goes.next)
      c.in-Goes.is));
}

pub returns-in-Ends-clause-goes : goal.returns-in-Ends-clause-goes
returns-in-Ends-clause-goes g c =
    goes_ended (opened_in c.args.context.now)
    (moves_in c.args.context.now g.W.Surroundings.moves) (due_in c.args.course) c.args.held.now c.args.world.now c.args.left due_in c.in-Ends.how
    (c.parts.made + c.in-Ok.rounded.spent) c.run_part.new.held c.run_part.new.world
    (comes_so (opened_in c.args.context.now)
    (moves_in c.args.context.now g.W.Surroundings.moves) (due_in c.args.course) c.args.held.now
    c.args.world.now c.args.left (c.parts.made + c.in-Ok.rounded.spent)
    c.in-Ok.rounded.round c.run_part.new.around.items c.run_part.new.held
    c.run_part.new.world
    (part_on (opened_in c.args.context.now)
    (moves_in c.args.context.now g.W.Surroundings.moves) (due_in c.args.course) c.args.held.now
    c.args.world.now c.args.left c.parts.made c.parts.now c.parts.around.items c.parts.held
    c.parts.world c.parts.invariant.passes
    c.parts.invariant.within c.in-Ok.rounded.spent c.run_part.new.held
    c.run_part.new.world c.in-Ok.rounded.round c.run_part.new.around.items
    c.in-Ok.ensures.rounds)
    c.in-Ends.how c.in-Ends.is
    (last_is c.in-Ends.how c.in-Ok.rounded.round c.run_part.new.around.items c.in-Ends.is c.in-Ok.ensures.last))

pub returns-in-Limit-clause-goes : goal.returns-in-Limit-clause-goes
returns-in-Limit-clause-goes g c =
    goes_ended (opened_in c.args.context.now)
    (moves_in c.args.context.now g.W.Surroundings.moves) (due_in c.args.course) c.args.held.now c.args.world.now c.args.left due_in how.TurnLimit
    (c.parts.made + c.in-Ok.rounded.spent) c.run_part.new.held c.run_part.new.world
    (comes_late (opened_in c.args.context.now)
    (moves_in c.args.context.now g.W.Surroundings.moves) (due_in c.args.course) c.args.held.now
    c.args.world.now c.args.left (c.parts.made + c.in-Ok.rounded.spent)
    c.in-Ok.rounded.round c.run_part.new.around.items c.run_part.new.held
    c.run_part.new.world
    (part_on (opened_in c.args.context.now)
    (moves_in c.args.context.now g.W.Surroundings.moves) (due_in c.args.course) c.args.held.now
    c.args.world.now c.args.left c.parts.made c.parts.now c.parts.around.items c.parts.held
    c.parts.world c.parts.invariant.passes
    c.parts.invariant.within c.in-Ok.rounded.spent c.run_part.new.held
    c.run_part.new.world c.in-Ok.rounded.round c.run_part.new.around.items
    c.in-Ok.ensures.rounds)
    c.in-Limit.is)

pub returns-then-is_to_stand-clause-fits : goal.returns-then-is_to_stand-clause-fits
returns-then-is_to_stand-clause-fits g c =
    stays_along g.W.Surroundings.moves g.W.HostSurroundings.fits g.met.W.HostSurroundings.stays_fit c.args.context.now
    c.args.world.now c.parts.invariant.passes.heard c.parts.world c.parts.invariant.passes.chain c.requires.fits

pub returns-in-Err-clause-fits : goal.returns-in-Err-clause-fits
returns-in-Err-clause-fits g c =
    stays_along g.W.Surroundings.moves g.W.HostSurroundings.fits g.met.W.HostSurroundings.stays_fit c.args.context.now
    c.parts.world c.in-Err.ensures.lacks.heard c.run_part.new.world c.in-Err.ensures.lacks.chain
    (stays_along g.W.Surroundings.moves g.W.HostSurroundings.fits g.met.W.HostSurroundings.stays_fit c.args.context.now
    c.args.world.now c.parts.invariant.passes.heard c.parts.world c.parts.invariant.passes.chain c.requires.fits)

pub returns-in-Ends-clause-fits : goal.returns-in-Ends-clause-fits
returns-in-Ends-clause-fits g c =
    stays_along g.W.Surroundings.moves g.W.HostSurroundings.fits g.met.W.HostSurroundings.stays_fit c.args.context.now
    c.parts.world c.in-Ok.ensures.rounds.heard c.run_part.new.world c.in-Ok.ensures.rounds.chain
    (stays_along g.W.Surroundings.moves g.W.HostSurroundings.fits g.met.W.HostSurroundings.stays_fit c.args.context.now
    c.args.world.now c.parts.invariant.passes.heard c.parts.world c.parts.invariant.passes.chain c.requires.fits)

pub returns-in-Limit-clause-fits : goal.returns-in-Limit-clause-fits
returns-in-Limit-clause-fits g c =
    stays_along g.W.Surroundings.moves g.W.HostSurroundings.fits g.met.W.HostSurroundings.stays_fit c.args.context.now
    c.parts.world c.in-Ok.ensures.rounds.heard c.run_part.new.world c.in-Ok.ensures.rounds.chain
    (stays_along g.W.Surroundings.moves g.W.HostSurroundings.fits g.met.W.HostSurroundings.stays_fit c.args.context.now
    c.args.world.now c.parts.invariant.passes.heard c.parts.world c.parts.invariant.passes.chain c.requires.fits)
