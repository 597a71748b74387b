use Rattle.std.proofs.Common.{List, subst, sym}
use Rattle.spec_execution.specs.Bodies.{exec}
use Rattle.spec_execution.specs.Hosts.{said, returned}
use Rattle.spec_execution.specs.declared.answer.Answer.{Answer}
use Rattle.store_state.specs.Engines.{engine_parts}
use Rattle.wasm_host.specs.Activations.{activation_of}
use Rattle.code_hosts.specs.Contexts.{moves_in, opened_in}
use Rattle.code_hosts.specs.Parting.{awaited, bordered}
use Rattle.code_hosts.specs.Rounds.{Rounds, Lacks}
use Rattle.code_hosts.specs.declared.rounds.Lacking.{Lacking}
use Rattle.code_hosts.specs.declared.rounds.Rounded.{Rounded}
use Rattle.code_hosts.specs.declared.states.Waiting.{Waiting}
use Rattle.code_hosts.proofs.LeaveLemmas.{said_rounds, said_lacks}
use Rattle.code_hosts.proofs.OperationLemmas.{same_fuel}
use Rattle.code_hosts.proofs.PartingLemmas.{if_ok, if_err}
use Rattle.code_hosts.proofs.answer_part.heed.Goals as goal

pub returns-in-Return-clause-rounds : goal.returns-in-Return-clause-rounds
returns-in-Return-clause-rounds g c =
    if_ok (λ (x : Rounded). (around : List Waiting) →
    Rounds (opened_in c.args.context.now)
    (moves_in c.args.context.now g.W.Surroundings.moves)
    (awaited around (bordered (λ w. returned w c.args.activation.results.now c.as_slice.result.now)))
    c.args.held.now c.args.world.now c.args.left x.spent x.round around
    c.return_values.new.held c.return_values.new.world)
    (λ (x : Rounded).
    Rounds (opened_in c.args.context.now)
    (moves_in c.args.context.now g.W.Surroundings.moves)
    (awaited c.args.around.now.items (bordered (said exec (activation_of c.args.activation) c.args.what)))
    c.args.held.now c.args.world.now c.args.left x.spent x.round
    c.args.around.now.items c.return_values.new.held c.return_values.new.world)
    c.return_values.result c.return_values.ensures.rounds (λ x p.
    said_rounds (opened_in c.args.context.now)
    (moves_in c.args.context.now g.W.Surroundings.moves)
    (activation_of c.args.activation) c.args.what c.in-Return.vals c.as_slice.result.now c.in-Return.is c.as_slice.ensures c.args.held.now
    c.args.world.now c.args.left c.args.around.now.items
    c.return_values.new.held c.return_values.new.world x.spent x.round (p
    c.args.around.now.items))

pub returns-in-Return-clause-lacks : goal.returns-in-Return-clause-lacks
returns-in-Return-clause-lacks g c =
    if_err (λ (x : Lacking). (around : List Waiting) →
    Lacks (opened_in c.args.context.now)
    (moves_in c.args.context.now g.W.Surroundings.moves)
    (awaited around (bordered (λ w. returned w c.args.activation.results.now c.as_slice.result.now)))
    c.args.held.now c.args.world.now c.args.left x.spent x.lack
    c.return_values.new.held c.return_values.new.world)
    (λ (x : Lacking).
    Lacks (opened_in c.args.context.now)
    (moves_in c.args.context.now g.W.Surroundings.moves)
    (awaited c.args.around.now.items (bordered (said exec (activation_of c.args.activation) c.args.what)))
    c.args.held.now c.args.world.now c.args.left x.spent x.lack
    c.return_values.new.held c.return_values.new.world)
    c.return_values.result c.return_values.ensures.lacks (λ x p.
    said_lacks (opened_in c.args.context.now)
    (moves_in c.args.context.now g.W.Surroundings.moves)
    (activation_of c.args.activation) c.args.what c.in-Return.vals c.as_slice.result.now c.in-Return.is c.as_slice.ensures c.args.held.now
    c.args.world.now c.args.left c.args.around.now.items
    c.return_values.new.held c.return_values.new.world x.spent x.lack (p
    c.args.around.now.items))

pub returns-in-Return-clause-fuel : goal.returns-in-Return-clause-fuel
returns-in-Return-clause-fuel g c = λ consumes.
    rw (same_fuel c.args.context.now.bounds c.args.context.now.id (engine_parts c.args.context.now.engine.now) c.requires.rules
    c.args.context.now.program.now c.args.held.now c.return_values.new.held c.return_values.ensures.stays)
    (c.requires.fuel consumes)

pub returns-in-Fail-clause-rounds : goal.returns-in-Fail-clause-rounds
returns-in-Fail-clause-rounds g c =
    subst (λ (k : Answer). Rounds (opened_in c.args.context.now)
    (moves_in c.args.context.now g.W.Surroundings.moves)
    (awaited c.args.around.now.items (bordered (said exec (activation_of c.args.activation) k))) c.args.held.now c.args.world.now c.args.left
    c.leave_body.result.spent c.leave_body.result.round c.args.around.now.items c.args.held.now
    c.leave_body.new.world) (sym c.in-Fail.is)
    (c.leave_body.ensures.leaves c.args.held.now c.args.around.now.items)
