use Rattle.std.proofs.Common.{ap, sym, ◌∙◌}
use Rattle.spec_machine.specs.Machine.{Machine}
use Rattle.wasm_store.specs.Stores.{StoreParts, store_parts}
use Rattle.spec_machine.specs.FunctionCalls.{called}
use Rattle.wasm_call.specs.Outside.{asked}
use Rattle.wasm_call.proofs.HostCallLemmas.{run_allowed, refused_result, host_returned, host_failed, host_counted, host_fit, host_owned, left_after}
use Rattle.wasm_call.proofs.RefusedCallLemmas.{told_refused, told_none}
use Rattle.wasm_call.proofs.value_calls.call_values.Goals as goal

pub returns-in_err-may_call-clause-failed : goal.returns-in_err-may_call-clause-failed
returns-in_err-may_call-clause-failed g c =
    refused_result (asked g.T.ResourceLimiter.growths g.H.HostBody.has g.K.CallHooks.hooks g.B.DeadlineBehaviour.behaves
    g.E.EpochSource.readings g.H.HostBody.steps) c.args.store.now c.args.host.now c.args.epochs.now c.args.func
    c.args.args.now c.args.results c.in_err-may_call.field-0.0 c.requires.fresh
    c.in_err-may_call.ensures c.from_residual.result c.from_residual.ensures.1

pub run_function-ended-requires-clause-allowed : goal.run_function-ended-requires-clause-allowed
run_function-ended-requires-clause-allowed g c =
    run_allowed c.into_parts-parts.result c.args.store.now.machine c.args.func c.args.args.now c.args.results
    (c.into_parts-parts.ensures.whole ∙ c.take_objects.ensures.taken) c.in_ok-may_call.ensures

-- the store has the id and the engine of its objects, which were taken out of it, and asks whom they say
pub run_function-ended-requires-clause-id : goal.run_function-ended-requires-clause-id
run_function-ended-requires-clause-id g c =
    ap (λ (m : Machine). m.id) (c.into_parts-parts.ensures.whole ∙ c.take_objects.ensures.taken)
    ∙ sym (ap (λ (s : StoreParts _). s.machine.id) c.take_objects.ensures.left)

pub run_function-ended-requires-clause-engine : goal.run_function-ended-requires-clause-engine
run_function-ended-requires-clause-engine g c =
    ap (λ (m : Machine). m.engine) (c.into_parts-parts.ensures.whole ∙ c.take_objects.ensures.taken)
    ∙ sym (ap (λ (s : StoreParts _). s.machine.engine) c.take_objects.ensures.left)

pub run_function-ended-requires-clause-limiter : goal.run_function-ended-requires-clause-limiter
run_function-ended-requires-clause-limiter g c =
    ap (λ (m : Machine). m.is_limited) (c.into_parts-parts.ensures.whole ∙ c.take_objects.ensures.taken)
    ∙ sym (ap (λ (s : StoreParts _). s.machine.is_limited) c.take_objects.ensures.left)

pub run_function-ended-requires-clause-hook : goal.run_function-ended-requires-clause-hook
run_function-ended-requires-clause-hook g c =
    ap (λ (m : Machine). m.is_hooked) (c.into_parts-parts.ensures.whole ∙ c.take_objects.ensures.taken)
    ∙ sym (ap (λ (s : StoreParts _). s.machine.is_hooked) c.take_objects.ensures.left)

pub run_function-ended-requires-clause-behaviour : goal.run_function-ended-requires-clause-behaviour
run_function-ended-requires-clause-behaviour g c =
    ap (λ (m : Machine). m.is_behaving) (c.into_parts-parts.ensures.whole ∙ c.take_objects.ensures.taken)
    ∙ sym (ap (λ (s : StoreParts _). s.machine.is_behaving) c.take_objects.ensures.left)

pub returns-clause-returned : goal.returns-clause-returned
returns-clause-returned g c =
    host_returned (asked g.T.ResourceLimiter.growths g.H.HostBody.has g.K.CallHooks.hooks g.B.DeadlineBehaviour.behaves
    g.E.EpochSource.readings g.H.HostBody.steps) c.args.store.now c.put_objects.new.store
    c.args.host.now c.run_function-ended.new.host c.args.epochs.now c.run_function-ended.new.epochs c.args.func c.args.args.now c.args.results
    c.in_ok-may_call.ensures c.requires.fresh c.into_parts-parts.result c.run_function-ended.new.parts
    c.run_function-ended.result.turns c.take_objects.new.store.host_data
    c.run_function-ended.new.store.host_data
    (c.into_parts-parts.ensures.whole ∙ c.take_objects.ensures.taken)
    (ap (λ (s : StoreParts _). s.host_data) c.take_objects.ensures.left)
    (left_after c.put_objects.ensures (c.set_turns.ensures ∙ ap (λ (s : StoreParts _). store_parts s.machine
    c.run_function-ended.result.turns s.host_data) c.run_function-ended.ensures.store) c.from_parts.ensures) c.run_function-ended.result.results
    c.run_function-ended.ensures.returned

pub returns-clause-failed : goal.returns-clause-failed
returns-clause-failed g c =
    host_failed (asked g.T.ResourceLimiter.growths g.H.HostBody.has g.K.CallHooks.hooks g.B.DeadlineBehaviour.behaves
    g.E.EpochSource.readings g.H.HostBody.steps) c.args.store.now c.put_objects.new.store
    c.args.host.now c.run_function-ended.new.host c.args.epochs.now c.run_function-ended.new.epochs c.args.func c.args.args.now c.args.results
    c.in_ok-may_call.ensures c.requires.fresh c.into_parts-parts.result c.run_function-ended.new.parts
    c.run_function-ended.result.turns c.take_objects.new.store.host_data
    c.run_function-ended.new.store.host_data
    (c.into_parts-parts.ensures.whole ∙ c.take_objects.ensures.taken)
    (ap (λ (s : StoreParts _). s.host_data) c.take_objects.ensures.left)
    (left_after c.put_objects.ensures (c.set_turns.ensures ∙ ap (λ (s : StoreParts _). store_parts s.machine
    c.run_function-ended.result.turns s.host_data) c.run_function-ended.ensures.store) c.from_parts.ensures) c.run_function-ended.result.results
    c.run_function-ended.ensures.failed

pub returns-clause-counted : goal.returns-clause-counted
returns-clause-counted g c =
    host_counted (asked g.T.ResourceLimiter.growths g.H.HostBody.has g.K.CallHooks.hooks g.B.DeadlineBehaviour.behaves
    g.E.EpochSource.readings g.H.HostBody.steps) c.args.store.now c.put_objects.new.store
    c.args.host.now c.run_function-ended.new.host c.args.epochs.now c.run_function-ended.new.epochs c.args.func c.args.args.now c.args.results
    c.in_ok-may_call.ensures c.requires.fresh c.into_parts-parts.result c.run_function-ended.new.parts
    c.run_function-ended.result.turns c.take_objects.new.store.host_data
    c.run_function-ended.new.store.host_data
    (c.into_parts-parts.ensures.whole ∙ c.take_objects.ensures.taken)
    (ap (λ (s : StoreParts _). s.host_data) c.take_objects.ensures.left)
    (left_after c.put_objects.ensures (c.set_turns.ensures ∙ ap (λ (s : StoreParts _). store_parts s.machine
    c.run_function-ended.result.turns s.host_data) c.run_function-ended.ensures.store) c.from_parts.ensures) c.run_function-ended.result.results
    c.run_function-ended.ensures.fit

pub returns-clause-fit : goal.returns-clause-fit
returns-clause-fit g c =
    host_fit (asked g.T.ResourceLimiter.growths g.H.HostBody.has g.K.CallHooks.hooks g.B.DeadlineBehaviour.behaves
    g.E.EpochSource.readings g.H.HostBody.steps) c.args.store.now c.put_objects.new.store
    c.args.host.now c.run_function-ended.new.host c.args.epochs.now c.run_function-ended.new.epochs c.args.func c.args.args.now c.args.results
    c.in_ok-may_call.ensures c.requires.fresh c.into_parts-parts.result c.run_function-ended.new.parts
    c.run_function-ended.result.turns c.take_objects.new.store.host_data
    c.run_function-ended.new.store.host_data
    (c.into_parts-parts.ensures.whole ∙ c.take_objects.ensures.taken)
    (ap (λ (s : StoreParts _). s.host_data) c.take_objects.ensures.left)
    (left_after c.put_objects.ensures (c.set_turns.ensures ∙ ap (λ (s : StoreParts _). store_parts s.machine
    c.run_function-ended.result.turns s.host_data) c.run_function-ended.ensures.store) c.from_parts.ensures) c.run_function-ended.result.results
    c.run_function-ended.ensures.fit

pub returns-clause-owned : goal.returns-clause-owned
returns-clause-owned g c =
    host_owned (asked g.T.ResourceLimiter.growths g.H.HostBody.has g.K.CallHooks.hooks g.B.DeadlineBehaviour.behaves
    g.E.EpochSource.readings g.H.HostBody.steps) c.args.store.now c.put_objects.new.store
    c.args.host.now c.run_function-ended.new.host c.args.epochs.now c.run_function-ended.new.epochs c.args.func c.args.args.now c.args.results
    c.in_ok-may_call.ensures c.requires.fresh c.into_parts-parts.result c.run_function-ended.new.parts
    c.run_function-ended.result.turns c.take_objects.new.store.host_data
    c.run_function-ended.new.store.host_data
    (c.into_parts-parts.ensures.whole ∙ c.take_objects.ensures.taken)
    (ap (λ (s : StoreParts _). s.host_data) c.take_objects.ensures.left)
    (left_after c.put_objects.ensures (c.set_turns.ensures ∙ ap (λ (s : StoreParts _). store_parts s.machine
    c.run_function-ended.result.turns s.host_data) c.run_function-ended.ensures.store) c.from_parts.ensures) c.run_function-ended.result.results
    c.run_function-ended.ensures.owned

pub returns-in_err-may_call-clause-refused : goal.returns-in_err-may_call-clause-refused
returns-in_err-may_call-clause-refused g c =
    told_refused (called c.args.store.now.machine c.args.func c.args.args.now c.args.results)
    c.in_err-may_call.field-0.0 c.from_residual.result c.in_err-may_call.ensures c.from_residual.ensures.1

pub returns-clause-refused : goal.returns-clause-refused
returns-clause-refused g c =
    told_none (called c.args.store.now.machine c.args.func c.args.args.now c.args.results)
    c.run_function-ended.result.results c.in_ok-may_call.ensures
