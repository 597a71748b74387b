use Rattle.std.proofs.Common.{◌+◌, ◌*◌, ◌≤◌, refl, ap, sym, ◌∙◌, subst}
use Rattle.spec_machine.specs.Machine.{Machine, debt}
use Rattle.store_state.specs.Tanks.{most_owed}
use Rattle.code_leaps.specs.Spending.{most_cost}
use Rattle.code_hosts.specs.declared.bounds.Bounds.{Bounds}
use Rattle.code_hosts.specs.Asked.{asked, outside_by}
use Rattle.wasm_store.specs.Stores.{StoreParts}
use Rattle.wasm_call.specs.Asking.{KeepsStore}
use Rattle.wasm_call.specs.Invoking.{machine_in}
use Rattle.wasm_call.proofs.EngineLemmas.{fuel_in_range}
use Rattle.wasm_call.proofs.IdleCallLemmas.{idles, idle_run}
use Rattle.wasm_call.proofs.ThroughLemmas.{bare, put_back, stays_well, bare_fits}
use Rattle.wasm_call.proofs.invocations.run_parts.Given.{Over}
use Rattle.wasm_call.proofs.invocations.run_parts.Goals as goal
use Rattle.wasm_call.proofs.invocations.run_parts.Goals.{After-put_objects-arg-1, After-unshare}

pub returns-in_default-clause-unfinished : goal.returns-in_default-clause-unfinished
returns-in_default-clause-unfinished g c =
    let r = asked g.T.ResourceLimiter.growths g.H.HostBody.has g.K.CallHooks.hooks g.B.DeadlineBehaviour.behaves
    g.E.EpochSource.readings g.H.HostBody.steps in
    let o = outside_by c.args.store.now.host_data c.args.host.now c.args.epochs.now in
    let m = machine_in c.args.parts.now in
    idle_run r o c.args.parts.now c.args.invocation.now.number c.args.invocation.now.arguments.now c.args.invocation.now.caller
    c.args.turns _ refl
    (idles r o c.args.invocation.now.number c.args.invocation.now.arguments.now c.args.invocation.now.caller m)

pub call_lent-ended-requires-clause-fuel : goal.call_lent-ended-requires-clause-fuel
call_lent-ended-requires-clause-fuel g c = λ consumes.
    subst (λ (b : Bounds). debt c.args.parts.now.held.fuel + b.turns * most_cost ≤ most_owed) (sym c.bounds_of.ensures)
    (fuel_in_range (machine_in c.args.parts.now) c.requires.formed c.args.turns c.requires.few)

pub call_lent-ended-requires-clause-kept : goal.call_lent-ended-requires-clause-kept
call_lent-ended-requires-clause-kept g c =
    rw (c.bounds_of.ensures, c.get.ensures, c.share.ensures.kept, c.take_objects-own.ensures.left)
    (stays_well c.args.parts.now c.args.turns (asked g.T.ResourceLimiter.growths g.H.HostBody.has g.K.CallHooks.hooks
    g.B.DeadlineBehaviour.behaves g.E.EpochSource.readings g.H.HostBody.steps) c.args.invocation.now.number
    c.args.invocation.now.arguments.now c.args.invocation.now.caller c.requires.safe.0 c.requires.safe.1
    (outside_by c.args.store.now.host_data c.args.host.now c.args.epochs.now))

pub call_lent-ended-requires-clause-program : goal.call_lent-ended-requires-clause-program
call_lent-ended-requires-clause-program g c =
    c.of_shared-program.ensures ∙ c.in-Ok.ensures.shared ∙ sym (c.get.ensures ∙ c.share.ensures.kept)

pub call_lent-ended-requires-clause-store : goal.call_lent-ended-requires-clause-store
call_lent-ended-requires-clause-store g c =
    rw (c.bounds_of.ensures, c.take_objects-own.ensures.left)
    (bare_fits c.args.parts.now c.args.turns c.args.store.now.machine c.requires.id c.requires.engine
    c.requires.limiter c.requires.hook c.requires.behaviour)

-- the store, behind the run, has no objects yet, and asks whom it asked
module _ (g : Over) (c : After-put_objects-arg-1 g) where
  keeps : KeepsStore (bare c.args.store.now) c.call_lent-ended.new.store
  keeps = rw c.take_objects-own.ensures.left at c.call_lent-ended.ensures.store

pub put_objects-requires-clause-hook : goal.put_objects-requires-clause-hook
put_objects-requires-clause-hook g c =
    ap (λ (m : Machine). m.is_hooked) c.take_objects-own.ensures.taken
    ∙ sym (ap (λ (s : StoreParts _). s.machine.is_hooked) (keeps g c))

pub put_objects-requires-clause-behaviour : goal.put_objects-requires-clause-behaviour
put_objects-requires-clause-behaviour g c =
    ap (λ (m : Machine). m.is_behaving) c.take_objects-own.ensures.taken
    ∙ sym (ap (λ (s : StoreParts _). s.machine.is_behaving) (keeps g c))

pub returns-clause-replied : goal.returns-clause-replied
returns-clause-replied g c =
    rw (ap (λ (s : StoreParts _). s.host_data) c.put_objects.ensures)
    (rw (c.bounds_of.ensures, c.get.ensures, c.share.ensures.kept, c.take_objects-own.ensures.left)
    at c.call_lent-ended.ensures.replied)

pub returns-clause-unfinished : goal.returns-clause-unfinished
returns-clause-unfinished g c =
    rw (ap (λ (s : StoreParts _). s.host_data) c.put_objects.ensures)
    (rw (c.bounds_of.ensures, c.get.ensures, c.share.ensures.kept, c.take_objects-own.ensures.left)
    at c.call_lent-ended.ensures.unfinished)

module _ (g : Over) (c : After-unshare g) where
  kept : KeepsStore (bare c.args.store.now) c.call_lent-ended.new.store
  kept = rw c.take_objects-own.ensures.left at c.call_lent-ended.ensures.store

pub returns-clause-store : goal.returns-clause-store
returns-clause-store g c =
    put_back c.args.store.now c.call_lent-ended.new.store c.put_objects.new.store c.take_objects-own.result
    (kept g c) c.put_objects.ensures c.take_objects-own.ensures.taken
