use Rattle.std.proofs.Common.{◌-◌, arith}
use Rattle.spec_execution.specs.Bodies.{exec}
use Rattle.spec_execution.specs.Hosts.{said}
use Rattle.wasm_host.specs.Activations.{activation_of}
use Rattle.code_hosts.specs.Contexts.{moves_in, opened_in}
use Rattle.code_hosts.specs.Parting.{awaited, bordered}
use Rattle.code_hosts.specs.Rounds.{Rounds, Lacks}
use Rattle.code_hosts.specs.States.{due_of}
use Rattle.code_hosts.specs.declared.rounds.Lacking.{Lacking}
use Rattle.code_hosts.specs.declared.rounds.Rounded.{Rounded}
use Rattle.code_hosts.specs.declared.states.Open.TheVariants.{Body}
use Rattle.code_hosts.proofs.BodyLemmas.{step_fails, step_says}
use Rattle.code_hosts.proofs.FitLemmas.{stays_along}
use Rattle.code_hosts.proofs.PartingLemmas.{later_ok, later_err}
use Rattle.code_hosts.proofs.RoundLemmas.{rounds_on, lacks_on}
use Rattle.code_hosts.proofs.body_part.step_body.Goals as goal

pub heed-heeded-requires-clause-fits : goal.heed-heeded-requires-clause-fits
heed-heeded-requires-clause-fits g c =
    let x = c.in-Ok.ensures.says in
    stays_along g.W.Surroundings.moves g.W.HostSurroundings.fits g.met.W.HostSurroundings.stays_fit c.args.context.now
    c.args.world.now x.heard c.step.new.world x.chain c.requires.fits

pub returns-in_default-clause-lacks : goal.returns-in_default-clause-lacks
returns-in_default-clause-lacks g c =
    step_fails (opened_in c.args.context.now)
    (moves_in c.args.context.now g.W.Surroundings.moves)
    (activation_of c.args.activation) c.args.event c.args.held.now c.args.world.now c.args.left c.args.around.now.items
    c.step.new.world c.requires.some c.in_default.ensures.lacks

pub returns-clause-rounds : goal.returns-clause-rounds
returns-clause-rounds g c =
    later_ok (λ (x : Rounded).
    Rounds (opened_in c.args.context.now)
    (moves_in c.args.context.now g.W.Surroundings.moves)
    (awaited c.args.around.now.items (bordered (said exec (activation_of c.step.new.activation) c.in-Ok.what)))
    c.args.held.now c.step.new.world (c.args.left - 1) x.spent x.round
    c.heed-heeded.new.around.items c.heed-heeded.new.held c.heed-heeded.new.world)
    (λ (x : Rounded).
    Rounds (opened_in c.args.context.now)
    (moves_in c.args.context.now g.W.Surroundings.moves)
    (due_of (Body c.args.activation c.args.event) c.args.around.now.items)
    c.args.held.now c.args.world.now c.args.left x.spent x.round
    c.heed-heeded.new.around.items c.heed-heeded.new.held c.heed-heeded.new.world)
    1 c.heed-heeded.result c.later.result c.later.ensures c.heed-heeded.ensures.rounds (λ x p.
    rounds_on (opened_in c.args.context.now)
    (moves_in c.args.context.now g.W.Surroundings.moves)
    (due_of (Body c.args.activation c.args.event) c.args.around.now.items)
    (awaited c.args.around.now.items (bordered (said exec (activation_of c.step.new.activation) c.in-Ok.what)))
    c.args.held.now c.args.held.now c.args.world.now c.step.new.world c.args.left 1
    c.in-Ok.ensures.says.heard (omega arith) c.in-Ok.ensures.says.chain
    (step_says (opened_in c.args.context.now)
    (moves_in c.args.context.now g.W.Surroundings.moves)
    (activation_of c.args.activation) c.args.event c.args.held.now c.args.world.now c.args.left c.args.around.now.items c.step.new.world
    (activation_of c.step.new.activation) c.in-Ok.what c.in-Ok.ensures.says)
    x.spent c.heed-heeded.new.held c.heed-heeded.new.world
    c.heed-heeded.new.around.items x.round p)

pub returns-clause-lacks : goal.returns-clause-lacks
returns-clause-lacks g c =
    later_err (λ (x : Lacking).
    Lacks (opened_in c.args.context.now)
    (moves_in c.args.context.now g.W.Surroundings.moves)
    (awaited c.args.around.now.items (bordered (said exec (activation_of c.step.new.activation) c.in-Ok.what)))
    c.args.held.now c.step.new.world (c.args.left - 1) x.spent x.lack
    c.heed-heeded.new.held c.heed-heeded.new.world)
    (λ (x : Lacking).
    Lacks (opened_in c.args.context.now)
    (moves_in c.args.context.now g.W.Surroundings.moves)
    (due_of (Body c.args.activation c.args.event) c.args.around.now.items)
    c.args.held.now c.args.world.now c.args.left x.spent x.lack
    c.heed-heeded.new.held c.heed-heeded.new.world)
    1 c.heed-heeded.result c.later.result c.later.ensures c.heed-heeded.ensures.lacks (λ x p.
    lacks_on (opened_in c.args.context.now)
    (moves_in c.args.context.now g.W.Surroundings.moves)
    (due_of (Body c.args.activation c.args.event) c.args.around.now.items)
    (awaited c.args.around.now.items (bordered (said exec (activation_of c.step.new.activation) c.in-Ok.what)))
    c.args.held.now c.args.held.now c.args.world.now c.step.new.world c.args.left 1
    c.in-Ok.ensures.says.heard (omega arith) c.in-Ok.ensures.says.chain
    (step_says (opened_in c.args.context.now)
    (moves_in c.args.context.now g.W.Surroundings.moves)
    (activation_of c.args.activation) c.args.event c.args.held.now c.args.world.now c.args.left c.args.around.now.items c.step.new.world
    (activation_of c.step.new.activation) c.in-Ok.what c.in-Ok.ensures.says)
    x.spent c.heed-heeded.new.held c.heed-heeded.new.world x.lack p)
