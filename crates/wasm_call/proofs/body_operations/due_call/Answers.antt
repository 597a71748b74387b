use Rattle.std.proofs.Common.{ap, sym, ◌∙◌, subst}
use Rattle.std.specs.Prelude.{Some, map}
use Rattle.wasm_values.specs.declared.refusals.Refusal.TheVariants.{NoReply}
use Rattle.spec_machine.specs.declared.operation.Op.TheVariants as op
use Rattle.spec_machine.specs.Values.{raw_val}
use Rattle.wasm_host.specs.Scopes.{scope_of}
use Rattle.spec_machine.specs.FunctionCalls.{called}
use Rattle.spec_machine.specs.declared.reply.Reply.{Reply}
use Rattle.code_hosts.specs.declared.operations.Operated.TheVariants as operated
use Rattle.wasm_call.specs.Operating.{ComesTo}
use Rattle.wasm_call.specs.Room.{refusal_of}
use Rattle.wasm_call.proofs.ArgumentLemmas.{call_with}
use Rattle.wasm_call.proofs.CommandLemmas.{call_unnamed, call_unvalued, call_named}
use Rattle.wasm_call.proofs.RoomLemmas.{always, met_called}
use Rattle.wasm_call.proofs.DueCallLemmas.{refused_comes, wants_on, unmet_comes, invoked_comes}
use Rattle.wasm_call.proofs.ReplyLemmas.{mapped_none, mapped_some}
use Rattle.wasm_call.proofs.body_operations.due_call.Goals as goal

pub returns-in_default-clause-due : goal.returns-in_default-clause-due
returns-in_default-clause-due g c =
    refused_comes (scope_of c.args.scope.now) (op.Call c.args.func c.args.args.now c.args.results) c.args.store.now.machine
    NoReply (call_unnamed c.args.store.now.machine (scope_of c.args.scope.now) c.args.func c.args.args.now c.args.results
    c.in_default.ensures)

pub returns-in_err-unlisted-clause-room : goal.returns-in_err-unlisted-clause-room
returns-in_err-unlisted-clause-room g c =
    wants_on c.args.store.now.machine (scope_of c.args.scope.now)
    (op.Call c.args.func c.args.args.now c.args.results) c.from_residual.result

pub returns-in_err-unlisted-clause-met : goal.returns-in_err-unlisted-clause-met
returns-in_err-unlisted-clause-met g c =
    always c.from_residual.result (ap refusal_of (call_with c.args.store.now.machine (scope_of c.args.scope.now)
    c.args.func c.args.args.now c.args.results c.in-Some.func c.in-Some.ensures) ∙ c.in_err-unlisted.ensures.met)

pub returns-in_default-operand_values-clause-due : goal.returns-in_default-operand_values-clause-due
returns-in_default-operand_values-clause-due g c =
    let h = c.in_ok-unlisted.ensures.refused in
    subst (λ (r : Reply). ComesTo (scope_of c.args.scope.now) (op.Call c.args.func c.args.args.now c.args.results)
    c.args.store.now.machine (operated.Replies r)) (sym h.1)
    (refused_comes (scope_of c.args.scope.now) (op.Call c.args.func c.args.args.now c.args.results)
    c.args.store.now.machine h.0 (call_with c.args.store.now.machine (scope_of c.args.scope.now)
    c.args.func c.args.args.now c.args.results c.in-Some.func c.in-Some.ensures ∙ h.2))

pub returns-in_default-values-clause-due : goal.returns-in_default-values-clause-due
returns-in_default-values-clause-due g c =
    refused_comes (scope_of c.args.scope.now) (op.Call c.args.func c.args.args.now c.args.results) c.args.store.now.machine
    NoReply (call_unvalued c.args.store.now.machine (scope_of c.args.scope.now) c.args.func c.args.args.now c.args.results
    c.in-Some.func c.in-Some.ensures (mapped_none _ _ _ c.in_default-values.is c.in-Ok.ensures))

pub returns-in-Err-clause-due : goal.returns-in-Err-clause-due
returns-in-Err-clause-due g c =
    unmet_comes c.args.store.now.machine (scope_of c.args.scope.now) c.args.func c.args.args.now c.args.results
    c.in-Some.func c.as_slice.result.now
    (call_named c.args.store.now.machine (scope_of c.args.scope.now) c.args.func c.args.args.now c.args.results
    c.in-Some.func c.as_slice.result.now c.in-Some.ensures
    (ap Some c.as_slice.ensures.value ∙ mapped_some _ _ _ _ c.in-Some-values.is c.in-Ok.ensures)) c.in-Err.why
    c.may_call.result c.in-Err.is c.may_call.ensures

pub returns-in_err-arguments-clause-room : goal.returns-in_err-arguments-clause-room
returns-in_err-arguments-clause-room g c =
    wants_on c.args.store.now.machine (scope_of c.args.scope.now)
    (op.Call c.args.func c.args.args.now c.args.results) c.from_residual-in_err-arguments.result

pub returns-clause-due : goal.returns-clause-due
returns-clause-due g c =
    invoked_comes c.args.store.now.machine (scope_of c.args.scope.now) c.args.func c.args.args.now c.args.results
    c.in-Some.func c.as_slice.result.now
    (call_named c.args.store.now.machine (scope_of c.args.scope.now) c.args.func c.args.args.now c.args.results
    c.in-Some.func c.as_slice.result.now c.in-Some.ensures
    (ap Some c.as_slice.ensures.value ∙ mapped_some _ _ _ _ c.in-Some-values.is c.in-Ok.ensures))
    c.in_default-may_call.field-0 c.may_call.result c.in_default-may_call.is c.may_call.ensures
    (record { function = c.index.result; arguments = c.in_ok-arguments.arguments }) c.index.ensures
    (c.in_ok-arguments.ensures ∙ ap (map raw_val) (c.as_slice-2.ensures.value ∙ sym c.as_slice.ensures.value))

pub returns-in_err-arguments-clause-met : goal.returns-in_err-arguments-clause-met
returns-in_err-arguments-clause-met g c =
    always c.from_residual-in_err-arguments.result
    (ap refusal_of (call_named c.args.store.now.machine (scope_of c.args.scope.now) c.args.func c.args.args.now
    c.args.results c.in-Some.func c.as_slice.result.now c.in-Some.ensures
    (ap Some c.as_slice.ensures.value ∙ mapped_some _ _ _ _ c.in-Some-values.is c.in-Ok.ensures))
    ∙ met_called (called c.args.store.now.machine c.in-Some.func c.as_slice.result.now c.args.results)
    c.in_default-may_call.field-0 (sym c.in_default-may_call.is ∙ c.may_call.ensures))
