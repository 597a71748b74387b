use Rattle.std.proofs.Common.{ap, sym, ◌∙◌, subst, List}
use Rattle.spec_machine.specs.Commands.{operation}
use Rattle.spec_machine.specs.declared.name.Operand.{Operand}
use Rattle.spec_machine.specs.declared.operation.Op.{Op}
use Rattle.spec_machine.specs.declared.operation.Op.TheVariants as op
use Rattle.code_hosts.specs.declared.operations.Operation.{Operation}
use Rattle.wasm_host.specs.Scopes.{scope_of}
use Rattle.wasm_store.specs.Stores.{StoreParts}
use Rattle.wasm_call.specs.Operating.{KeepsRead, Does, Lacks}
use Rattle.wasm_call.specs.Outside.{surrounded}
use Rattle.wasm_call.specs.Room.{takes_memory, refusal_of}
use Rattle.wasm_call.proofs.KeptLemmas.{kept_all}
use Rattle.wasm_call.proofs.StoreOperationLemmas.{comes_does, room_lacks}
use Rattle.wasm_call.proofs.body_operations.do_operation.Goals as goal

pub returns-in-Ok-clause-does : goal.returns-in-Ok-clause-does
returns-in-Ok-clause-does g c =
    let d : Operation = record { what = c.in-Ok.what; spent = 0 } in
    subst (λ (s : StoreParts _). Does g.T.ResourceLimiter.growths g.E.EpochSource.readings (scope_of c.args.scope.now)
    c.args.op.now c.args.left (surrounded c.args.store.now tt c.args.epochs.now) (surrounded s tt c.args.epochs.now) d)
    (sym c.due_call.ensures.same)
    (comes_does g.T.ResourceLimiter.growths g.E.EpochSource.readings (scope_of c.args.scope.now) c.args.op.now
    (op.Call c.in-Call.func c.as_slice.result.now c.in-Call.results) c.args.left
    (surrounded c.args.store.now tt c.args.epochs.now)
    (ap (λ (x : List Operand). op.Call c.in-Call.func x c.in-Call.results) c.as_slice.ensures ∙ sym c.in-Call.is)
    c.in-Ok.what c.in-Ok.ensures.due)

pub returns-in-Ok-clause-keeps : goal.returns-in-Ok-clause-keeps
returns-in-Ok-clause-keeps g c =
    subst (λ (s : StoreParts _). KeepsRead c.args.store.now.machine s.machine) (sym c.due_call.ensures.same)
    (kept_all c.args.store.now.machine)

pub returns-in-Err-clause-lacks : goal.returns-in-Err-clause-lacks
returns-in-Err-clause-lacks g c =
    subst (λ (s : StoreParts _). Lacks g.T.ResourceLimiter.growths g.E.EpochSource.readings (scope_of c.args.scope.now)
    c.args.op.now c.args.left (surrounded c.args.store.now tt c.args.epochs.now) (surrounded s tt c.args.epochs.now) 0)
    (sym c.due_call.ensures.same)
    (room_lacks g.T.ResourceLimiter.growths g.E.EpochSource.readings (scope_of c.args.scope.now) c.args.op.now
    (op.Call c.in-Call.func c.as_slice.result.now c.in-Call.results) c.args.left
    (surrounded c.args.store.now tt c.args.epochs.now)
    (ap (λ (x : List Operand). op.Call c.in-Call.func x c.in-Call.results) c.as_slice.ensures ∙ sym c.in-Call.is)
    c.in-Err.ensures.room)

pub returns-in-Err-clause-room : goal.returns-in-Err-clause-room
returns-in-Err-clause-room g c = ap takes_memory c.in-Call.is

pub returns-in-Err-clause-met : goal.returns-in-Err-clause-met
returns-in-Err-clause-met g c =
    ap (λ (o : Op). refusal_of (operation c.args.store.now.machine (scope_of c.args.scope.now) o))
    (c.in-Call.is ∙ sym (ap (λ (x : List Operand). op.Call c.in-Call.func x c.in-Call.results) c.as_slice.ensures))
    ∙ c.in-Err.ensures.met

pub returns-in-Err-clause-keeps : goal.returns-in-Err-clause-keeps
returns-in-Err-clause-keeps g c =
    subst (λ (s : StoreParts _). KeepsRead c.args.store.now.machine s.machine) (sym c.due_call.ensures.same)
    (kept_all c.args.store.now.machine)
