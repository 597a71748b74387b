use Rattle.std.proofs.Common.{◌≡◌, refl, ap, sym, ◌∙◌, subst}
use Rattle.std.specs.Prelude.{Some, None, Err, OnErr}
use Rattle.wasm_values.specs.declared.refusals.Refusal.TheVariants.{NoReply}
use Rattle.spec_machine.specs.Commands.{Row, operation}
use Rattle.spec_machine.specs.FunctionCalls.{called}
use Rattle.spec_machine.specs.declared.operation.Op.TheVariants as op
use Rattle.code_hosts.specs.Asked as hosts
use Rattle.wasm_call.specs.Outside.{asked, surrounded}
use Rattle.wasm_host.specs.Scopes.{scope_of}
use Rattle.wasm_store.specs.Stores.{StoreParts}
use Rattle.wasm_call.specs.Arguments.{call_on}
use Rattle.wasm_call.specs.Room.{refusal_of}
use Rattle.wasm_call.proofs.ArgumentLemmas.{call_with, unlisted_called}
use Rattle.wasm_call.proofs.CommandLemmas.{refused_row, call_unnamed, call_unvalued, call_named, called_unmade}
use Rattle.wasm_call.proofs.ReplyLemmas.{mapped_none, mapped_some}
use Rattle.wasm_call.proofs.RoomLemmas.{unmade_met, called_told}
use Rattle.wasm_call.proofs.StopLemmas.{call_cut}
use Rattle.wasm_call.proofs.calls.call_function.Goals as goal

pub returns-in_default-clause-called : goal.returns-in_default-clause-called
returns-in_default-clause-called g c =
    refused_row (asked g.T.ResourceLimiter.growths g.H.HostBody.has g.K.CallHooks.hooks g.B.DeadlineBehaviour.behaves
    g.E.EpochSource.readings g.H.HostBody.steps) _ NoReply
    (surrounded c.args.store.now c.args.host.now c.args.epochs.now)
    (call_unnamed c.args.store.now.machine (scope_of c.args.scope.now) c.args.func c.args.args.now c.args.results
    c.in_default.ensures) c.requires.fresh

pub returns-in_default-operand_values-clause-called : goal.returns-in_default-operand_values-clause-called
returns-in_default-operand_values-clause-called g c =
    unlisted_called (asked g.T.ResourceLimiter.growths g.H.HostBody.has g.K.CallHooks.hooks g.B.DeadlineBehaviour.behaves
    g.E.EpochSource.readings g.H.HostBody.steps)
    (call_on c.args.store.now.machine (scope_of c.args.scope.now) c.in-Some.func c.args.args.now c.args.results)
    (operation c.args.store.now.machine (scope_of c.args.scope.now)
    (op.Call c.args.func c.args.args.now c.args.results)) c.unlisted.result
    (surrounded c.args.store.now c.args.host.now c.args.epochs.now)
    (surrounded c.unlisted.new.store c.args.host.now c.args.epochs.now)
    (call_with c.args.store.now.machine (scope_of c.args.scope.now) c.args.func c.args.args.now c.args.results
    c.in-Some.func c.in-Some.ensures)
    (ap (λ (s : StoreParts _). surrounded s c.args.host.now c.args.epochs.now) c.unlisted.ensures.same)
    c.requires.fresh c.unlisted.ensures.refused
    (call_cut (hosts.asked g.T.ResourceLimiter.growths g.H.HostBody.has g.K.CallHooks.hooks g.B.DeadlineBehaviour.behaves
    g.E.EpochSource.readings g.H.HostBody.steps)
    (surrounded c.args.store.now c.args.host.now c.args.epochs.now) c.requires.fresh c.keeps_well_formed.ensures (scope_of c.args.scope.now) c.args.func
    c.args.args.now c.args.results)

pub returns-in_default-values-clause-called : goal.returns-in_default-values-clause-called
returns-in_default-values-clause-called g c =
    refused_row (asked g.T.ResourceLimiter.growths g.H.HostBody.has g.K.CallHooks.hooks g.B.DeadlineBehaviour.behaves
    g.E.EpochSource.readings g.H.HostBody.steps) _ NoReply
    (surrounded c.args.store.now c.args.host.now c.args.epochs.now)
    (call_unvalued c.args.store.now.machine (scope_of c.args.scope.now) c.args.func c.args.args.now c.args.results
    c.in-Some.func c.in-Some.ensures (mapped_none _ _ _ c.in_default-values.is c.in-Ok.ensures))
    c.requires.fresh

pub returns-clause-called : goal.returns-clause-called
returns-clause-called g c =
    called_unmade (asked g.T.ResourceLimiter.growths g.H.HostBody.has g.K.CallHooks.hooks g.B.DeadlineBehaviour.behaves
    g.E.EpochSource.readings g.H.HostBody.steps) _ _ c.in-Err.why
    c.unmade.result _ _
    (call_named c.args.store.now.machine (scope_of c.args.scope.now) c.args.func c.args.args.now c.args.results
    c.in-Some.func c.as_slice.result.now c.in-Some.ensures
    (ap Some c.as_slice.ensures.value ∙ mapped_some _ _ _ _ c.in-Some-values.is c.in-Ok.ensures))
    c.unmade.ensures.short c.unmade.ensures.refused c.in-Err.ensures.failed

pub returns-in_default-operand_values-clause-met : goal.returns-in_default-operand_values-clause-met
returns-in_default-operand_values-clause-met g c =
    subst (λ (r : Row). OnErr c.unlisted.result (refusal_of r ≡ None))
    (sym (call_with c.args.store.now.machine (scope_of c.args.scope.now) c.args.func c.args.args.now c.args.results
    c.in-Some.func c.in-Some.ensures)) c.unlisted.ensures.met

pub returns-in_default-operand_values-clause-engine : goal.returns-in_default-operand_values-clause-engine
returns-in_default-operand_values-clause-engine g c =
    ap (λ (s : StoreParts _). s.machine.engine) c.unlisted.ensures.same

pub returns-clause-met : goal.returns-clause-met
returns-clause-met g c =
    subst (λ (r : Row). OnErr c.unmade.result (refusal_of r ≡ None))
    (sym (call_named c.args.store.now.machine (scope_of c.args.scope.now) c.args.func c.args.args.now c.args.results
    c.in-Some.func c.as_slice.result.now c.in-Some.ensures
    (ap Some c.as_slice.ensures.value ∙ mapped_some _ _ _ _ c.in-Some-values.is c.in-Ok.ensures)))
    (unmade_met (called c.args.store.now.machine c.in-Some.func c.as_slice.result.now c.args.results)
    (Err c.in-Err.why) c.in-Err.why c.unmade.result
    (called_told c.args.store.now.machine c.in-Some.func c.as_slice.result.now c.args.results) refl
    c.in-Err.ensures.refused c.unmade.ensures.short)
