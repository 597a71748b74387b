use Rattle.std.proofs.Common.{refl}
use Rattle.spec_machine.specs.Machine.{new_machine}
use Rattle.store_state.specs.Engines.{engine_parts}
use Rattle.wasm_host.specs.Activations.{activation_of}
use Rattle.code_run.proofs.StartLemmas.{on_err}
use Rattle.code_hosts.proofs.StepLemmas.{says, fails}
use Rattle.code_hosts.proofs.steps.step.Goals as goal

pub returns-clause-says : goal.returns-clause-says
returns-clause-says g c =
    let x = c.args.context.now in
    says x g.W.Surroundings.moves c.args.held.now (activation_of c.args.activation.now) c.args.event c.args.world.now
    c.ask_step.new.self c.ask_step.new.activation.state c.in_ok-what.what c.says_types.ensures
    (c.in_ok-what.ensures.stepped (new_machine x.id (engine_parts x.engine.now)) (record { id_is = refl; engine_is = refl }))
    (activation_of c.ask_step.new.activation) c.in_ok-what.ensures.rest

pub returns-in_err-what-clause-lacks : goal.returns-in_err-what-clause-lacks
returns-in_err-what-clause-lacks g c =
    let x = c.args.context.now in
    on_err c.from_residual.result (fails x g.W.Surroundings.moves c.args.held.now (activation_of c.args.activation.now)
    c.args.event c.args.world.now c.ask_step.new.self c.ask_step.new.activation.state _
    (c.in_err-what.ensures.stepped (new_machine x.id (engine_parts x.engine.now)) (record { id_is = refl; engine_is = refl })))
