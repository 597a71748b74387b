use Rattle.std.proofs.Common.{arith}
use Rattle.wasm_meter.specs.declared.call_hook.CallHook.TheVariants as event
use Rattle.wasm_values.specs.declared.refusals.Refusal.TheVariants as refusal
use Rattle.store_state.specs.Parts.{held_nothing}
use Rattle.code_hosts.specs.Contexts.{moves_in, opened_in}
use Rattle.code_hosts.specs.Courses.{called_in}
use Rattle.code_hosts.specs.Entering.{entering, returned, calling}
use Rattle.code_hosts.specs.declared.replies.How.TheVariants as how
use Rattle.code_hosts.proofs.CourseLemmas.{goes_after, goes_ended}
use Rattle.code_hosts.proofs.FitLemmas.{stays_along}
use Rattle.code_hosts.proofs.HostedLemmas.{before_fails, before_limit, leads_before}
use Rattle.code_hosts.proofs.RoundLemmas.{lacks_on}
use Rattle.code_hosts.proofs.entering.enter.Goals as goal

pub enter_course-requires-clause-fits : goal.enter_course-requires-clause-fits
enter_course-requires-clause-fits g c =
    let t = c.tell-told.ensures.tells held_nothing in
    stays_along g.W.Surroundings.moves g.W.HostSurroundings.fits g.met.W.HostSurroundings.stays_fit c.args.context.now
    c.args.world.now t.heard c.tell-told.new.world t.chain c.requires.fits

pub returns-in-Fails-clause-fits : goal.returns-in-Fails-clause-fits
returns-in-Fails-clause-fits g c =
    let t = c.tell-told.ensures.tells held_nothing in
    stays_along g.W.Surroundings.moves g.W.HostSurroundings.fits g.met.W.HostSurroundings.stays_fit c.args.context.now
    c.args.world.now t.heard c.tell-told.new.world t.chain c.requires.fits

pub returns-in-Limit-clause-fits : goal.returns-in-Limit-clause-fits
returns-in-Limit-clause-fits g c =
    let t = c.tell-told.ensures.tells held_nothing in
    stays_along g.W.Surroundings.moves g.W.HostSurroundings.fits g.met.W.HostSurroundings.stays_fit c.args.context.now
    c.args.world.now t.heard c.tell-told.new.world t.chain c.requires.fits

pub returns-in-Fails-clause-enters : goal.returns-in-Fails-clause-enters
returns-in-Fails-clause-enters g c = λ held.
    goes_ended (opened_in c.args.context.now)
    (moves_in c.args.context.now g.W.Surroundings.moves)
    (calling c.args.function c.args.arguments.now c.args.caller) held c.args.world.now c.args.context.now.bounds.turns called_in (how.Refused refusal.HookFault)
    c.tell-told.result.spent held c.tell-told.new.world
    (before_fails (opened_in c.args.context.now)
    (moves_in c.args.context.now g.W.Surroundings.moves)
    event.CallingWasm (returned (entering c.args.function c.args.arguments.now c.args.caller))
    held c.args.world.now c.args.context.now.bounds.turns
    c.tell-told.result.spent c.tell-told.result.word
    c.tell-told.new.world
    (c.tell-told.ensures.tells held) c.in-Fails.is)

pub returns-in-Limit-clause-enters : goal.returns-in-Limit-clause-enters
returns-in-Limit-clause-enters g c = λ held.
    goes_ended (opened_in c.args.context.now)
    (moves_in c.args.context.now g.W.Surroundings.moves)
    (calling c.args.function c.args.arguments.now c.args.caller) held c.args.world.now c.args.context.now.bounds.turns called_in how.TurnLimit
    c.tell-told.result.spent held c.tell-told.new.world
    (before_limit (opened_in c.args.context.now)
    (moves_in c.args.context.now g.W.Surroundings.moves)
    event.CallingWasm (returned (entering c.args.function c.args.arguments.now c.args.caller))
    held c.args.world.now c.args.context.now.bounds.turns
    c.tell-told.result.spent c.tell-told.result.word
    c.tell-told.new.world
    (c.tell-told.ensures.tells held) c.in-Limit.is)

pub returns-in-Ok-clause-enters : goal.returns-in-Ok-clause-enters
returns-in-Ok-clause-enters g c = λ held.
    let t = c.tell-told.ensures.tells held in
    goes_after (opened_in c.args.context.now)
    (moves_in c.args.context.now g.W.Surroundings.moves)
    (calling c.args.function c.args.arguments.now c.args.caller) (returned (entering c.args.function c.args.arguments.now c.args.caller))
    held held c.args.world.now
    c.tell-told.new.world c.args.context.now.bounds.turns c.tell-told.result.spent
    t.heard t.within t.chain (leads_before (opened_in c.args.context.now)
    (moves_in c.args.context.now g.W.Surroundings.moves)
    event.CallingWasm (returned (entering c.args.function c.args.arguments.now c.args.caller))
    held c.args.world.now c.args.context.now.bounds.turns
    c.tell-told.result.spent c.tell-told.result.word
    c.tell-told.new.world
    (c.tell-told.ensures.tells held) c.in-Passes.is) called_in c.in-Ok.entered
    held c.enter_course.new.world
    (c.in-Ok.ensures.enters held)

pub returns-in-Err-clause-lacks : goal.returns-in-Err-clause-lacks
returns-in-Err-clause-lacks g c = λ held.
    let t = c.tell-told.ensures.tells held in
    lacks_on (opened_in c.args.context.now)
    (moves_in c.args.context.now g.W.Surroundings.moves)
    (calling c.args.function c.args.arguments.now c.args.caller) (returned (entering c.args.function c.args.arguments.now c.args.caller))
    held held c.args.world.now
    c.tell-told.new.world c.args.context.now.bounds.turns c.tell-told.result.spent
    t.heard t.within t.chain (leads_before (opened_in c.args.context.now)
    (moves_in c.args.context.now g.W.Surroundings.moves)
    event.CallingWasm (returned (entering c.args.function c.args.arguments.now c.args.caller))
    held c.args.world.now c.args.context.now.bounds.turns
    c.tell-told.result.spent c.tell-told.result.word
    c.tell-told.new.world
    (c.tell-told.ensures.tells held) c.in-Passes.is) c.in-Err.lacking.spent
    held c.enter_course.new.world
    c.in-Err.lacking.lack (c.in-Err.ensures.lacks held)

pub overflow_add-result : goal.overflow_add-result
overflow_add-result g c =
    omega (arith, c.requires.few, c.tell-told.ensures.within, (c.in-Ok.ensures.enters held_nothing).within)

pub overflow_add-result-in-Err : goal.overflow_add-result-in-Err
overflow_add-result-in-Err g c =
    omega (arith, c.requires.few, c.tell-told.ensures.within, (c.in-Err.ensures.lacks held_nothing).within)
