use Rattle.std.proofs.Common.{[], subst}
use Rattle.spec_execution.specs.Bodies.{exec}
use Rattle.spec_execution.specs.Entering.{enter}
use Rattle.store_state.specs.Engines.{engine_parts}
use Rattle.store_state.specs.Parts.{HeldParts}
use Rattle.code_run.specs.Starting.{Starts}
use Rattle.code_run.specs.declared.starts.Started.{Started}
use Rattle.code_run.specs.declared.starts.Started.TheVariants as started
use Rattle.code_hosts.specs.Contexts.{moves_in, opened_in}
use Rattle.code_hosts.specs.Parting.{RunsCode}
use Rattle.code_hosts.specs.Rounds.{Rounds}
use Rattle.code_hosts.specs.declared.rounds.Rounded.{Rounded}
use Rattle.code_hosts.proofs.PartingLemmas.{if_ok}
use Rattle.code_hosts.proofs.OpenLemmas.{on_err, runs, runs_none, faults, starts_none, enters_none, opens_so, fails_so, limits_so}
use Rattle.code_hosts.proofs.function_entry.enter_function.Given.{Over}
use Rattle.code_hosts.proofs.function_entry.enter_function.Goals as goal

pub returns-in_err-thread-clause-waits : goal.returns-in_err-thread-clause-waits
returns-in_err-thread-clause-waits g c =
    on_err c.from_residual.result (λ held. starts_none c.args.context.now.bounds
    (moves_in c.args.context.now g.W.Surroundings.moves)
    c.args.context.now.program.now c.args.context.now.id (engine_parts c.args.context.now.engine.now) held c.args.depth c.args.function c.args.arguments.now c.args.caller
    c.args.world.now c.args.left c.in_err-thread.ensures.waits)

pub returns-in_err-entered-in-Calls-clause-waits : goal.returns-in_err-entered-in-Calls-clause-waits
returns-in_err-entered-in-Calls-clause-waits g c =
    on_err c.from_residual-in_err-entered-in-Calls.result (λ held. enters_none c.args.context.now.bounds
    (moves_in c.args.context.now g.W.Surroundings.moves)
    c.args.context.now.program.now c.args.context.now.id (engine_parts c.args.context.now.engine.now) held c.args.depth c.args.function c.args.arguments.now c.args.caller
    c.args.world.now c.args.left c.in-Calls.call
    (subst (λ (s : Started). Starts c.args.context.now.program.now c.args.context.now.bounds.rules.frames c.args.depth c.args.function
    c.args.arguments.now s) c.in-Calls.is c.in_ok-thread.ensures.starts) c.enter_body.new.world
    (c.in_err-entered-in-Calls.ensures.waits held))

-- the code of a function of an instance is at work, or there was no memory for it
begun : (g : Over) (c : goal.After-open_code g) → Starts c.args.context.now.program.now c.args.context.now.bounds.rules.frames c.args.depth
    c.args.function c.args.arguments.now (started.Runs c.in-Runs.thread)
begun g c =
    subst (λ (s : Started). Starts c.args.context.now.program.now c.args.context.now.bounds.rules.frames c.args.depth c.args.function
    c.args.arguments.now s) c.in-Runs.is c.in_ok-thread.ensures.starts

pub returns-in-Runs-clause-enters : goal.returns-in-Runs-clause-enters
returns-in-Runs-clause-enters g c =
    if_ok (RunsCode c.in-Runs.thread) (λ (x : Rounded). (held : HeldParts) →
    Rounds (opened_in c.args.context.now)
    (moves_in c.args.context.now g.W.Surroundings.moves)
    (λ w. enter exec c.args.depth c.args.function c.args.arguments.now c.args.caller w) held
    c.args.world.now c.args.left x.spent x.round [] held
    c.args.world.now) c.open_code.result c.open_code.ensures
    (λ x so held. runs c.args.context.now.bounds
    (moves_in c.args.context.now g.W.Surroundings.moves)
    c.args.context.now.program.now c.args.context.now.id (engine_parts c.args.context.now.engine.now) held c.args.depth c.args.function c.args.arguments.now c.args.caller
    c.args.world.now c.args.left c.in-Runs.thread (begun g c) x so)

pub returns-in-Runs-clause-waits : goal.returns-in-Runs-clause-waits
returns-in-Runs-clause-waits g c =
    on_err c.open_code.result (λ held. runs_none c.args.context.now.bounds
    (moves_in c.args.context.now g.W.Surroundings.moves)
    c.args.context.now.program.now c.args.context.now.id (engine_parts c.args.context.now.engine.now) held c.args.depth c.args.function c.args.arguments.now c.args.caller
    c.args.world.now c.args.left c.in-Runs.thread (begun g c))

pub returns-in-Fails-clause-enters : goal.returns-in-Fails-clause-enters
returns-in-Fails-clause-enters g c = λ held.
    faults c.args.context.now.bounds
    (moves_in c.args.context.now g.W.Surroundings.moves)
    c.args.context.now.program.now c.args.context.now.id (engine_parts c.args.context.now.engine.now) held c.args.depth c.args.function c.args.arguments.now c.args.caller
    c.args.world.now c.args.left c.in-Fails.fault c.how_of.result (subst (λ (s
    : Started). Starts c.args.context.now.program.now c.args.context.now.bounds.rules.frames c.args.depth c.args.function
    c.args.arguments.now s) c.in-Fails.is c.in_ok-thread.ensures.starts) c.how_of.ensures.ended
    c.how_of.ensures.end

pub returns-in-Opens-clause-enters : goal.returns-in-Opens-clause-enters
returns-in-Opens-clause-enters g c = λ held.
    opens_so c.args.context.now.bounds
    (moves_in c.args.context.now g.W.Surroundings.moves)
    c.args.context.now.program.now c.args.context.now.id (engine_parts c.args.context.now.engine.now) held c.args.depth c.args.function c.args.arguments.now c.args.caller
    c.args.world.now c.args.left c.in-Calls.call
    (subst (λ (s : Started). Starts c.args.context.now.program.now c.args.context.now.bounds.rules.frames c.args.depth c.args.function
    c.args.arguments.now s) c.in-Calls.is c.in_ok-thread.ensures.starts) c.enter_body.new.world c.in_ok-entered-in-Calls.entered
    (c.in_ok-entered-in-Calls.ensures.enters held)
    c.in-Opens.activation c.in-Opens.is

pub returns-in-Fails-what-clause-enters : goal.returns-in-Fails-what-clause-enters
returns-in-Fails-what-clause-enters g c = λ held.
    fails_so c.args.context.now.bounds
    (moves_in c.args.context.now g.W.Surroundings.moves)
    c.args.context.now.program.now c.args.context.now.id (engine_parts c.args.context.now.engine.now) held c.args.depth c.args.function c.args.arguments.now c.args.caller
    c.args.world.now c.args.left c.in-Calls.call
    (subst (λ (s : Started). Starts c.args.context.now.program.now c.args.context.now.bounds.rules.frames c.args.depth c.args.function
    c.args.arguments.now s) c.in-Calls.is c.in_ok-thread.ensures.starts) c.enter_body.new.world c.in_ok-entered-in-Calls.entered
    (c.in_ok-entered-in-Calls.ensures.enters held)
    c.in-Fails-what.fault c.how_of-in-Fails-what.result c.in-Fails-what.is c.how_of-in-Fails-what.ensures.ended
    c.how_of-in-Fails-what.ensures.end

pub returns-in-Limit-clause-enters : goal.returns-in-Limit-clause-enters
returns-in-Limit-clause-enters g c = λ held.
    limits_so c.args.context.now.bounds
    (moves_in c.args.context.now g.W.Surroundings.moves)
    c.args.context.now.program.now c.args.context.now.id (engine_parts c.args.context.now.engine.now) held c.args.depth c.args.function c.args.arguments.now c.args.caller
    c.args.world.now c.args.left c.in-Calls.call
    (subst (λ (s : Started). Starts c.args.context.now.program.now c.args.context.now.bounds.rules.frames c.args.depth c.args.function
    c.args.arguments.now s) c.in-Calls.is c.in_ok-thread.ensures.starts) c.enter_body.new.world c.in_ok-entered-in-Calls.entered
    (c.in_ok-entered-in-Calls.ensures.enters held) c.in-Limit.is
