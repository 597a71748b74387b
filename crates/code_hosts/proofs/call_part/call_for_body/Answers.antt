use Rattle.std.proofs.Common.{◌+◌, ◌-◌, ◌≤◌, None, sym, ◌∙◌, arith}
use Rattle.wasm_values.specs.declared.refusals.Refusal.TheVariants as refusal
use Rattle.spec_machine.specs.FunctionCalls.{Called}
use Rattle.spec_machine.specs.declared.reply.Reply.TheVariants as reply
use Rattle.spec_execution.specs.Bodies.{exec}
use Rattle.spec_execution.specs.Entering.{enter}
use Rattle.spec_execution.specs.Hosts.{go_on}
use Rattle.store_state.specs.Parts.{HeldParts, held_nothing}
use Rattle.wasm_host.specs.Activations.{activation_of}
use Rattle.code_hosts.specs.Contexts.{moves_in, opened_in}
use Rattle.code_hosts.specs.Hosting.{back_to, Asks}
use Rattle.code_hosts.specs.Operating.{IsInvoked, invoking}
use Rattle.code_hosts.specs.Parting.{awaited, bordered, TakesReply, LacksAtOnce}
use Rattle.code_hosts.specs.Rounds.{Rounds, Lacks}
use Rattle.code_hosts.specs.declared.rounds.Lacking.{Lacking}
use Rattle.code_hosts.specs.declared.rounds.Rounded.{Rounded}
use Rattle.code_hosts.proofs.InvokeLemmas.{passes_rounds, passes_lacks, fails_rounds, fails_lacks, invoke_limit, types_alike}
use Rattle.code_hosts.proofs.PartingLemmas.{if_ok, if_err, sum_fits, later_ok, later_err}
use Rattle.code_hosts.proofs.call_part.call_for_body.Goals as goal

pub later-requires-clause-goes : goal.later-requires-clause-goes
later-requires-clause-goes g c =
    if_ok (λ (x : Rounded). (held : HeldParts) →
    Rounds (opened_in c.args.context.now)
    (moves_in c.args.context.now g.W.Surroundings.moves)
    (awaited c.args.around.now.items (λ w. back_to (Asks (activation_of c.args.activation) c.results.result.now)
    (enter exec (c.args.activation.depth + 1) c.args.invoked.function c.args.invoked.arguments.items None w)))
    held c.tell-told.new.world
    (c.args.left - c.tell-told.result.spent) x.spent x.round c.enter_for_body-entered.new.around.items held
    c.enter_for_body-entered.new.world)
    (λ (x : Rounded). c.tell-told.result.spent + x.spent ≤ 18446744073709551615) c.enter_for_body-entered.result
    c.enter_for_body-entered.ensures.rounds (λ x p.
    sum_fits c.tell-told.result.spent x.spent c.args.left c.tell-told.ensures.within (omega arith)
    (p held_nothing).within)

pub later-requires-clause-lacks : goal.later-requires-clause-lacks
later-requires-clause-lacks g c =
    if_err (λ (x : Lacking). (held : HeldParts) →
    Lacks (opened_in c.args.context.now)
    (moves_in c.args.context.now g.W.Surroundings.moves)
    (awaited c.args.around.now.items (λ w. back_to (Asks (activation_of c.args.activation) c.results.result.now)
    (enter exec (c.args.activation.depth + 1) c.args.invoked.function c.args.invoked.arguments.items None w)))
    held c.tell-told.new.world
    (c.args.left - c.tell-told.result.spent) x.spent x.lack held
    c.enter_for_body-entered.new.world)
    (λ (x : Lacking). c.tell-told.result.spent + x.spent ≤ 18446744073709551615) c.enter_for_body-entered.result
    c.enter_for_body-entered.ensures.lacks (λ x p.
    sum_fits c.tell-told.result.spent x.spent c.args.left c.tell-told.ensures.within (omega arith)
    (p held_nothing).within)

pub returns-in-Passes-clause-rounds : goal.returns-in-Passes-clause-rounds
returns-in-Passes-clause-rounds g c =
    later_ok (λ (x : Rounded). (held : HeldParts) →
    Rounds (opened_in c.args.context.now)
    (moves_in c.args.context.now g.W.Surroundings.moves)
    (awaited c.args.around.now.items (λ w. back_to (Asks (activation_of c.args.activation) c.results.result.now)
    (enter exec (c.args.activation.depth + 1) c.args.invoked.function c.args.invoked.arguments.items None w)))
    held c.tell-told.new.world
    (c.args.left - c.tell-told.result.spent) x.spent x.round c.enter_for_body-entered.new.around.items held
    c.enter_for_body-entered.new.world)
    (λ (x : Rounded). (called : Called) → IsInvoked c.args.context.now.program.now called c.args.invoked →
    (held : HeldParts) →
    Rounds (opened_in c.args.context.now)
    (moves_in c.args.context.now g.W.Surroundings.moves)
    (awaited c.args.around.now.items (bordered (invoking called (c.args.activation.depth + 1)
    (go_on exec (activation_of c.args.activation)))))
    held c.args.world.now c.args.left x.spent x.round c.enter_for_body-entered.new.around.items held
    c.enter_for_body-entered.new.world)
    c.tell-told.result.spent c.enter_for_body-entered.result c.later.result c.later.ensures
    c.enter_for_body-entered.ensures.rounds (λ x p called is held.
    passes_rounds (opened_in c.args.context.now)
    (moves_in c.args.context.now g.W.Surroundings.moves)
    (activation_of c.args.activation) called (c.args.activation.depth + 1) held c.args.world.now
    c.args.left c.args.around.now.items c.tell-told.result c.tell-told.new.world
    (c.tell-told.ensures.tells held) c.in-Passes.is c.args.invoked.function
    c.args.invoked.arguments.items c.results.result.now is.0 is.1 (types_alike _ c.in-Some.ty.now is.2.0 called.results
    c.in-Some.ensures is.2.1 is.2.2 ∙ sym c.results.ensures)
    c.enter_for_body-entered.new.world
    c.enter_for_body-entered.new.around.items x (p held))

pub returns-in-Passes-clause-lacks : goal.returns-in-Passes-clause-lacks
returns-in-Passes-clause-lacks g c =
    later_err (λ (x : Lacking). (held : HeldParts) →
    Lacks (opened_in c.args.context.now)
    (moves_in c.args.context.now g.W.Surroundings.moves)
    (awaited c.args.around.now.items (λ w. back_to (Asks (activation_of c.args.activation) c.results.result.now)
    (enter exec (c.args.activation.depth + 1) c.args.invoked.function c.args.invoked.arguments.items None w)))
    held c.tell-told.new.world
    (c.args.left - c.tell-told.result.spent) x.spent x.lack held
    c.enter_for_body-entered.new.world)
    (λ (x : Lacking). (called : Called) → IsInvoked c.args.context.now.program.now called c.args.invoked →
    (held : HeldParts) →
    Lacks (opened_in c.args.context.now)
    (moves_in c.args.context.now g.W.Surroundings.moves)
    (awaited c.args.around.now.items (bordered (invoking called (c.args.activation.depth + 1)
    (go_on exec (activation_of c.args.activation)))))
    held c.args.world.now c.args.left x.spent x.lack held
    c.enter_for_body-entered.new.world)
    c.tell-told.result.spent c.enter_for_body-entered.result c.later.result c.later.ensures
    c.enter_for_body-entered.ensures.lacks (λ x p called is held.
    passes_lacks (opened_in c.args.context.now)
    (moves_in c.args.context.now g.W.Surroundings.moves)
    (activation_of c.args.activation) called (c.args.activation.depth + 1) held c.args.world.now
    c.args.left c.args.around.now.items c.tell-told.result c.tell-told.new.world
    (c.tell-told.ensures.tells held) c.in-Passes.is c.args.invoked.function
    c.args.invoked.arguments.items c.results.result.now is.0 is.1 (types_alike _ c.in-Some.ty.now is.2.0 called.results
    c.in-Some.ensures is.2.1 is.2.2 ∙ sym c.results.ensures)
    c.enter_for_body-entered.new.world
    x (p held))

pub returns-in-Fails-clause-rounds : goal.returns-in-Fails-clause-rounds
returns-in-Fails-clause-rounds g c =
    later_ok (λ (x : Rounded). TakesReply (activation_of c.args.activation) (reply.Refused refusal.HookFault) x)
    (λ (x : Rounded). (called : Called) → IsInvoked c.args.context.now.program.now called c.args.invoked →
    (held : HeldParts) →
    Rounds (opened_in c.args.context.now)
    (moves_in c.args.context.now g.W.Surroundings.moves)
    (awaited c.args.around.now.items (bordered (invoking called (c.args.activation.depth + 1)
    (go_on exec (activation_of c.args.activation)))))
    held c.args.world.now c.args.left x.spent x.round c.args.around.now.items held
    c.tell-told.new.world)
    c.tell-told.result.spent c.take_reply.result c.later-in-Fails.result c.later-in-Fails.ensures
    c.take_reply.ensures.takes (λ x p called is held.
    fails_rounds (opened_in c.args.context.now)
    (moves_in c.args.context.now g.W.Surroundings.moves)
    (activation_of c.args.activation) called (c.args.activation.depth + 1) held c.args.world.now
    c.args.left c.args.around.now.items c.tell-told.result c.tell-told.new.world
    (c.tell-told.ensures.tells held) c.in-Fails.is x p)

pub returns-in-Fails-clause-lacks : goal.returns-in-Fails-clause-lacks
returns-in-Fails-clause-lacks g c =
    later_err LacksAtOnce
    (λ (x : Lacking). (called : Called) → IsInvoked c.args.context.now.program.now called c.args.invoked →
    (held : HeldParts) →
    Lacks (opened_in c.args.context.now)
    (moves_in c.args.context.now g.W.Surroundings.moves)
    (awaited c.args.around.now.items (bordered (invoking called (c.args.activation.depth + 1)
    (go_on exec (activation_of c.args.activation)))))
    held c.args.world.now c.args.left x.spent x.lack held
    c.tell-told.new.world)
    c.tell-told.result.spent c.take_reply.result c.later-in-Fails.result c.later-in-Fails.ensures
    c.take_reply.ensures.lacks (λ x p called is held.
    fails_lacks (opened_in c.args.context.now)
    (moves_in c.args.context.now g.W.Surroundings.moves)
    (activation_of c.args.activation) called (c.args.activation.depth + 1) held c.args.world.now
    c.args.left c.args.around.now.items c.tell-told.result c.tell-told.new.world
    (c.tell-told.ensures.tells held) c.in-Fails.is x p)

pub returns-clause-rounds : goal.returns-clause-rounds
returns-clause-rounds g c =
    λ called is held.
    invoke_limit (opened_in c.args.context.now)
    (moves_in c.args.context.now g.W.Surroundings.moves)
    (activation_of c.args.activation) called (c.args.activation.depth + 1) held c.args.world.now
    c.args.left c.args.around.now.items c.tell-told.result c.tell-told.new.world
    (c.tell-told.ensures.tells held) c.in-Limit.is
