use Rattle.std.proofs.Common.{◌∙◌}
use Rattle.std.specs.Prelude.{length, Some}
use Rattle.code_hosts.specs.Asked.{asked}
use Rattle.code_hosts.specs.Asked as hosts
use Rattle.law_store.proofs.Objects.{keeps_objects}
use Rattle.wasm_call.specs.Outside.{surrounded}
use Rattle.wasm_call.proofs.CauseLemmas.{call_by_counts}
use Rattle.wasm_call.proofs.ConfinedLemmas.{returned_confined, failed_confined}
use Rattle.wasm_call.proofs.DueLemmas.{call_due}
use Rattle.wasm_call.proofs.HostCallLemmas.{outermost_failed}
use Rattle.wasm_call.proofs.RefusedCallLemmas.{outermost_told, outermost_returned}
use Rattle.wasm_call.proofs.func_run.FuncFuncRun.call.Goals as goal

pub returns-in_err-values-clause-failed : goal.returns-in_err-values-clause-failed
returns-in_err-values-clause-failed g c =
    outermost_failed _ c.args.host.now c.call_values.new.host c.args.epochs.now c.call_values.new.epochs c.args.store.now c.begin_turns.new.store
    c.call_values.new.store c.args.self.now c.args.params.now (Some (length c.args.results.now))
    c.in_err-values.field-0.0 c.from_residual.result c.begin_turns.ensures.begun c.in_err-values.ensures.failed
    c.from_residual.ensures.1

pub returns-in_err-values-clause-refused : goal.returns-in_err-values-clause-refused
returns-in_err-values-clause-refused g c =
    outermost_told c.args.store.now c.begin_turns.new.store c.args.self.now c.args.params.now
    (Some (length c.args.results.now)) c.begin_turns.ensures.begun c.in_err-values.field-0.0 c.from_residual.result
    c.in_err-values.ensures.refused c.from_residual.ensures.1

pub returns-clause-refused : goal.returns-clause-refused
returns-clause-refused g c =
    outermost_returned c.args.store.now c.begin_turns.new.store c.args.self.now c.args.params.now
    (Some (length c.args.results.now)) c.begin_turns.ensures.begun _ c.in_ok-values.ensures.refused

pub returns-in_err-values-clause-causes : goal.returns-in_err-values-clause-causes
returns-in_err-values-clause-causes g c =
    call_by_counts (asked g.T.ResourceLimiter.growths g.H.HostBody.has g.K.CallHooks.hooks g.B.DeadlineBehaviour.behaves
    g.E.EpochSource.readings g.H.HostBody.steps) _ _ _ _ _ _ c.law_failures_are_counted.ensures
    c.args.host.now c.call_values.new.host c.args.epochs.now c.call_values.new.epochs c.args.store.now c.begin_turns.new.store
    c.call_values.new.store c.args.self.now c.args.params.now (Some (length c.args.results.now))
    c.in_err-values.field-0.0 c.from_residual.result c.begin_turns.ensures.begun c.in_err-values.ensures.failed
    c.from_residual.ensures.1

pub returns-in_err-values-clause-due : goal.returns-in_err-values-clause-due
returns-in_err-values-clause-due g c =
    call_due _ (surrounded c.args.store.now c.args.host.now c.args.epochs.now)
    (surrounded c.call_values.new.store c.call_values.new.host c.call_values.new.epochs) c.args.self.now c.args.params.now
    (Some (length c.args.results.now)) c.from_residual.result (outermost_failed _ c.args.host.now c.call_values.new.host
    c.args.epochs.now c.call_values.new.epochs c.args.store.now c.begin_turns.new.store c.call_values.new.store
    c.args.self.now c.args.params.now (Some (length c.args.results.now)) c.in_err-values.field-0.0 c.from_residual.result
    c.begin_turns.ensures.begun c.in_err-values.ensures.failed c.from_residual.ensures.1)

pub returns-in_err-values-clause-confined : goal.returns-in_err-values-clause-confined
returns-in_err-values-clause-confined g c =
    failed_confined (hosts.asked g.T.ResourceLimiter.growths g.H.HostBody.has g.K.CallHooks.hooks
    g.B.DeadlineBehaviour.behaves g.E.EpochSource.readings g.H.HostBody.steps) c.args.host.now c.call_values.new.host
    c.args.epochs.now c.call_values.new.epochs c.args.store.now c.call_values.new.store c.keeps_well_formed.ensures
    c.args.self.now c.args.params.now (Some (length c.args.results.now)) c.in_err-values.field-0.0 c.from_residual.result
    c.from_residual.ensures.1 (returns-in_err-values-clause-failed g c) _

pub returns-in_err-values-clause-kept : goal.returns-in_err-values-clause-kept
returns-in_err-values-clause-kept g c =
    keeps_objects c.args.store.now.machine c.call_values.new.store.machine
    (returns-in_err-values-clause-confined g c).later

pub returns-clause-confined : goal.returns-clause-confined
returns-clause-confined g c =
    returned_confined (hosts.asked g.T.ResourceLimiter.growths g.H.HostBody.has g.K.CallHooks.hooks
    g.B.DeadlineBehaviour.behaves g.E.EpochSource.readings g.H.HostBody.steps) c.args.host.now c.call_values.new.host
    c.args.epochs.now c.call_values.new.epochs c.args.store.now c.call_values.new.store c.keeps_well_formed.ensures
    c.args.self.now c.args.params.now (Some (length c.args.results.now)) c.begin_turns.new.store
    c.begin_turns.ensures.begun _ _ (c.copy_from_slice.ensures.after ∙ c.as_slice.ensures.value)
    c.in_ok-values.ensures.returned

pub returns-clause-kept : goal.returns-clause-kept
returns-clause-kept g c =
    keeps_objects c.args.store.now.machine c.call_values.new.store.machine (returns-clause-confined g c).later
