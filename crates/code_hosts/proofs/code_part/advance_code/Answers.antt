use Rattle.std.proofs.Common.{◌+◌, ◌-◌, ◌≤◌, ap, ◌∙◌, arith}
use Rattle.std.specs.Prelude.{reverse}
use Rattle.std.proofs.lemmas.List.{reverse-reverse}
use Rattle.store_state.specs.Parts.{HeldParts}
use Rattle.code_run.specs.Pausing.{results_at}
use Rattle.code_stack.specs.Steps.{hosted}
use Rattle.code_run.specs.Steps.{seen}
use Rattle.code_run.specs.declared.thread.Thread.{Thread}
use Rattle.code_hosts.specs.Contexts.{moves_in, opened_in}
use Rattle.code_hosts.specs.Parting.{awaited}
use Rattle.code_hosts.specs.Rounds.{Rounds, Lacks}
use Rattle.code_hosts.specs.States.{due_of}
use Rattle.code_hosts.specs.declared.rounds.Lacking.{Lacking}
use Rattle.code_hosts.specs.declared.rounds.Rounded.{Rounded}
use Rattle.code_hosts.specs.declared.states.Open.TheVariants.{Code}
use Rattle.code_hosts.proofs.CodeLemmas.{code_fails, code_done, code_uncopied, code_limit, code_exhausted, code_calls, code_fuel}
use Rattle.code_hosts.proofs.PartingLemmas.{if_ok, if_err, sum_fits, later_ok, later_err, later_fuel}
use Rattle.code_hosts.proofs.RoundLemmas.{rounds_on, lacks_on}
use Rattle.code_hosts.proofs.code_part.advance_code.Goals as goal

pub returns-in-Fails-clause-rounds : goal.returns-in-Fails-clause-rounds
returns-in-Fails-clause-rounds g c =
    code_fails (opened_in c.args.context.now)
    (moves_in c.args.context.now g.W.Surroundings.moves)
    c.args.thread.value c.args.held.now c.args.world.now c.args.left c.args.around.now.items
    c.in-Ends.ended (seen c.run_code.new.thread.value) c.run_code.new.held c.run_code.new.world c.in-Ends.ensures.ends
    c.in-Fails.fault c.in-Fails.is c.how_of.result c.how_of.ensures.ended c.how_of.ensures.end

pub returns-in-Ok-clause-rounds : goal.returns-in-Ok-clause-rounds
returns-in-Ok-clause-rounds g c =
    code_done (opened_in c.args.context.now)
    (moves_in c.args.context.now g.W.Surroundings.moves)
    c.args.thread.value c.args.held.now c.args.world.now c.args.left c.args.around.now.items
    c.in-Ends.ended (seen c.run_code.new.thread.value) c.run_code.new.held c.run_code.new.world c.in-Ends.ensures.ends
    c.in-Done.is c.in-Ok.results
    (ap reverse (c.in-Ok.ensures ∙ c.results.ensures ∙ ap (λ (t : Thread). results_at (seen t)) c.deref.ensures) ∙ reverse-reverse _)

pub returns-in-Done-clause-lacks : goal.returns-in-Done-clause-lacks
returns-in-Done-clause-lacks g c =
    code_uncopied (opened_in c.args.context.now)
    (moves_in c.args.context.now g.W.Surroundings.moves)
    c.args.thread.value c.args.held.now c.args.world.now c.args.left c.args.around.now.items
    c.in-Ends.ended (seen c.run_code.new.thread.value) c.run_code.new.held c.run_code.new.world c.in-Ends.ensures.ends
    c.in-Done.is

pub later-requires-clause-goes : goal.later-requires-clause-goes
later-requires-clause-goes g c = if_ok (λ (x : Rounded). (held : HeldParts) →
    Rounds (opened_in c.args.context.now)
    (moves_in c.args.context.now g.W.Surroundings.moves)
    (awaited c.args.around.now.items (hosted (seen c.run_code.new.thread.value) c.in-Calls.call))
    held c.run_code.new.world (c.args.left -
    c.in-Ends.ended.spent) x.spent x.round c.call_body-called.new.around.items held c.call_body-called.new.world)
    (λ (x : Rounded). c.in-Ends.ended.spent + x.spent ≤ 18446744073709551615) c.call_body-called.result
    c.call_body-called.ensures.rounds (λ x p.
    sum_fits c.in-Ends.ended.spent x.spent c.args.left c.in-Ends.ensures.within (omega arith)
    (p c.args.held.now).within)

pub later-requires-clause-lacks : goal.later-requires-clause-lacks
later-requires-clause-lacks g c = if_err (λ (x : Lacking). (held : HeldParts) →
    Lacks (opened_in c.args.context.now)
    (moves_in c.args.context.now g.W.Surroundings.moves)
    (awaited c.args.around.now.items (hosted (seen c.run_code.new.thread.value) c.in-Calls.call))
    held c.run_code.new.world (c.args.left -
    c.in-Ends.ended.spent) x.spent x.lack held c.call_body-called.new.world)
    (λ (x : Lacking). c.in-Ends.ended.spent + x.spent ≤ 18446744073709551615) c.call_body-called.result
    c.call_body-called.ensures.lacks (λ x p.
    sum_fits c.in-Ends.ended.spent x.spent c.args.left c.in-Ends.ensures.within (omega arith)
    (p c.args.held.now).within)

pub returns-in-Calls-clause-rounds : goal.returns-in-Calls-clause-rounds
returns-in-Calls-clause-rounds g c = later_ok (λ (x : Rounded). (held : HeldParts) →
    Rounds (opened_in c.args.context.now)
    (moves_in c.args.context.now g.W.Surroundings.moves)
    (awaited c.args.around.now.items (hosted (seen c.run_code.new.thread.value) c.in-Calls.call))
    held c.run_code.new.world (c.args.left -
    c.in-Ends.ended.spent) x.spent x.round c.call_body-called.new.around.items held c.call_body-called.new.world)
    (λ (x : Rounded). Rounds (opened_in c.args.context.now)
    (moves_in c.args.context.now g.W.Surroundings.moves)
    (due_of (Code c.args.thread) c.args.around.now.items) c.args.held.now c.args.world.now c.args.left x.spent x.round c.call_body-called.new.around.items c.run_code.new.held c.call_body-called.new.world)
    c.in-Ends.ended.spent c.call_body-called.result c.later.result c.later.ensures c.call_body-called.ensures.rounds (λ x p.
    rounds_on (opened_in c.args.context.now)
    (moves_in c.args.context.now g.W.Surroundings.moves)
    (due_of (Code c.args.thread) c.args.around.now.items) (awaited c.args.around.now.items (hosted (seen
    c.run_code.new.thread.value) c.in-Calls.call))
    c.args.held.now c.run_code.new.held c.args.world.now c.run_code.new.world c.args.left c.in-Ends.ended.spent
    c.in-Ends.ensures.ends.heard c.in-Ends.ensures.within c.in-Ends.ensures.ends.chain
    (code_calls (opened_in c.args.context.now)
    (moves_in c.args.context.now g.W.Surroundings.moves)
    c.args.thread.value c.args.held.now c.args.world.now c.args.left c.args.around.now.items
    c.in-Ends.ended (seen c.run_code.new.thread.value) c.run_code.new.held c.run_code.new.world c.in-Ends.ensures.ends
    c.in-Calls.call c.in-Calls.is)
    x.spent c.run_code.new.held c.call_body-called.new.world
    c.call_body-called.new.around.items x.round (p c.run_code.new.held))

pub returns-in-Calls-clause-fuel : goal.returns-in-Calls-clause-fuel
returns-in-Calls-clause-fuel g c = later_fuel _ _ c.in-Ends.ended.spent c.args.left c.call_body-called.result c.later.result
    c.later.ensures (λ consumes. code_fuel _ _ c.in-Ends.ended.spent c.args.left c.in-Ends.ensures.within
    (c.requires.fuel consumes) c.in-Ends.ensures.debt)

pub returns-in-Calls-clause-lacks : goal.returns-in-Calls-clause-lacks
returns-in-Calls-clause-lacks g c = later_err (λ (x : Lacking). (held : HeldParts) →
    Lacks (opened_in c.args.context.now)
    (moves_in c.args.context.now g.W.Surroundings.moves)
    (awaited c.args.around.now.items (hosted (seen c.run_code.new.thread.value) c.in-Calls.call))
    held c.run_code.new.world (c.args.left -
    c.in-Ends.ended.spent) x.spent x.lack held c.call_body-called.new.world)
    (λ (x : Lacking). Lacks (opened_in c.args.context.now)
    (moves_in c.args.context.now g.W.Surroundings.moves)
    (due_of (Code c.args.thread) c.args.around.now.items) c.args.held.now c.args.world.now c.args.left x.spent x.lack c.run_code.new.held c.call_body-called.new.world)
    c.in-Ends.ended.spent c.call_body-called.result c.later.result c.later.ensures c.call_body-called.ensures.lacks (λ x p.
    lacks_on (opened_in c.args.context.now)
    (moves_in c.args.context.now g.W.Surroundings.moves)
    (due_of (Code c.args.thread) c.args.around.now.items) (awaited c.args.around.now.items (hosted (seen
    c.run_code.new.thread.value) c.in-Calls.call))
    c.args.held.now c.run_code.new.held c.args.world.now c.run_code.new.world c.args.left c.in-Ends.ended.spent
    c.in-Ends.ensures.ends.heard c.in-Ends.ensures.within c.in-Ends.ensures.ends.chain
    (code_calls (opened_in c.args.context.now)
    (moves_in c.args.context.now g.W.Surroundings.moves)
    c.args.thread.value c.args.held.now c.args.world.now c.args.left c.args.around.now.items
    c.in-Ends.ended (seen c.run_code.new.thread.value) c.run_code.new.held c.run_code.new.world c.in-Ends.ensures.ends
    c.in-Calls.call c.in-Calls.is)
    x.spent c.run_code.new.held c.call_body-called.new.world
    x.lack (p c.run_code.new.held))

pub returns-in-Limit-clause-rounds : goal.returns-in-Limit-clause-rounds
returns-in-Limit-clause-rounds g c =
    code_limit (opened_in c.args.context.now)
    (moves_in c.args.context.now g.W.Surroundings.moves)
    c.args.thread.value c.args.held.now c.args.world.now c.args.left c.args.around.now.items
    c.in-Ends.ended (seen c.run_code.new.thread.value) c.run_code.new.held c.run_code.new.world c.in-Ends.ensures.ends
    c.in-Limit.is

pub returns-clause-lacks : goal.returns-clause-lacks
returns-clause-lacks g c =
    code_exhausted (opened_in c.args.context.now)
    (moves_in c.args.context.now g.W.Surroundings.moves)
    c.args.thread.value c.args.held.now c.args.world.now c.args.left c.args.around.now.items
    c.in-Ends.ended (seen c.run_code.new.thread.value) c.run_code.new.held c.run_code.new.world c.in-Ends.ensures.ends
    c.in-Exhausted.is
