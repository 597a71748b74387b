use Rattle.std.proofs.Common.{inl, inr, arith}
use Rattle.wasm_host.specs.Activations.{activation_of}
use Rattle.code_hosts.proofs.FitLemmas.{stays_along}
use Rattle.code_hosts.proofs.SayingLemmas.{says_deep, says_late, says_short, says_step}
use Rattle.code_hosts.proofs.saying.say.Goals as goal

pub returns-then-left-eq0-clause-late : goal.returns-then-left-eq0-clause-late
returns-then-left-eq0-clause-late g c = λ none.
    says_late c.args.context.now g.W.Surroundings.moves c.args.held.now c.args.world.now c.args.left c.args.course.at_work
    c.in-Body.activation c.in-Body.field-1 c.in-Body.is c.args.course.around.items none

pub returns-then-activation-clause-lacks : goal.returns-then-activation-clause-lacks
returns-then-activation-clause-lacks g c =
    inl (says_deep c.args.context.now g.W.Surroundings.moves c.args.held.now c.args.world.now c.args.left c.args.course.at_work
    c.in-Body.activation c.in-Body.field-1 c.in-Body.is c.args.course.around.items)

pub returns-in-Err-clause-lacks : goal.returns-in-Err-clause-lacks
returns-in-Err-clause-lacks g c =
    inr (says_short c.args.context.now g.W.Surroundings.moves c.args.held.now c.args.world.now c.args.left c.args.course.at_work
    c.in-Body.activation c.in-Body.field-1 c.in-Body.is c.args.course.around.items
    (omega (arith, c.if-left-eq0.false)) c.args.state c.args.answer (activation_of c.with_state-stepped.result)
    c.with_state-stepped.ensures.stepped c.in-Err.lacking.spent c.heed_part.new.held c.heed_part.new.world
    c.in-Err.lacking.lack c.in-Err.ensures.lacks)

pub returns-clause-says : goal.returns-clause-says
returns-clause-says g c = λ some.
    says_step c.args.context.now g.W.Surroundings.moves c.args.held.now c.args.world.now c.args.left c.args.course.at_work
    c.in-Body.activation c.in-Body.field-1 c.in-Body.is c.args.course.around.items
    some c.args.state c.args.answer (activation_of c.with_state-stepped.result)
    c.with_state-stepped.ensures.stepped c.in-Ok.rounded.spent c.heed_part.new.held c.heed_part.new.world
    c.in-Ok.rounded.round c.heed_part.new.around c.stage_of-stage.result c.stage_of-stage.ensures c.in-Ok.ensures.last
    c.in-Ok.ensures.rounds

pub returns-in-Err-clause-fits : goal.returns-in-Err-clause-fits
returns-in-Err-clause-fits g c =
    stays_along g.W.Surroundings.moves g.W.HostSurroundings.fits g.met.W.HostSurroundings.stays_fit c.args.context.now
    c.args.world.now c.in-Err.ensures.lacks.heard c.heed_part.new.world c.in-Err.ensures.lacks.chain c.requires.fits

pub returns-clause-fits : goal.returns-clause-fits
returns-clause-fits g c =
    stays_along g.W.Surroundings.moves g.W.HostSurroundings.fits g.met.W.HostSurroundings.stays_fit c.args.context.now
    c.args.world.now c.in-Ok.ensures.rounds.heard c.heed_part.new.world c.in-Ok.ensures.rounds.chain c.requires.fits
