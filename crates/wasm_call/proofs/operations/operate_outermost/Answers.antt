use Rattle.std.proofs.Common.{◌≡◌, ap, sym, ◌∙◌, subst, List}
use Rattle.std.specs.Prelude.{None, OnErr}
use Rattle.spec_machine.specs.Commands.{operation}
use Rattle.spec_machine.specs.Machine.{EngineParts}
use Rattle.spec_machine.specs.declared.name.Operand.{Operand}
use Rattle.spec_machine.specs.declared.operation.Op.{Op}
use Rattle.spec_machine.specs.declared.operation.Op.TheVariants as op
use Rattle.code_hosts.specs.Asked.{asked}
use Rattle.wasm_host.specs.Scopes.{scope_of}
use Rattle.wasm_call.specs.Alone.{codeless}
use Rattle.wasm_call.specs.Outside.{surrounded}
use Rattle.wasm_call.specs.Room.{takes_memory, refusal_of}
use Rattle.wasm_call.proofs.RoomLemmas.{taken, performed_met}
use Rattle.wasm_call.proofs.SurroundedLemmas.{runs_no_code, operated_around}
use Rattle.wasm_call.proofs.operations.operate_outermost.Goals as goal

pub returns-in_default-clause-operated : goal.returns-in_default-clause-operated
returns-in_default-clause-operated g c =
    operated_around (asked g.T.ResourceLimiter.growths g.H.HostBody.has g.K.CallHooks.hooks g.B.DeadlineBehaviour.behaves
    g.E.EpochSource.readings g.H.HostBody.steps) c.args.host.now (scope_of c.args.scope.now) c.args.op.now
    c.turns-limit.result c.args.store.now c.args.epochs.now c.perform.result c.perform.new.store c.perform.new.epochs
    (runs_no_code c.args.op.now c.in_default.not-Call)
    (c.turns-limit.ensures.value ∙ ap (λ (x : EngineParts). x.turns) c.engine.ensures) c.perform.ensures.performed

pub returns-in-Call-clause-room : goal.returns-in-Call-clause-room
returns-in-Call-clause-room g c = taken _ _ (ap takes_memory c.in-Call.is)

pub returns-in-Call-clause-met : goal.returns-in-Call-clause-met
returns-in-Call-clause-met g c =
    subst (λ (o : Op). OnErr c.call_function.result
    (refusal_of (operation c.args.store.now.machine (scope_of c.args.scope.now) o) ≡ None))
    (ap (λ (x : List Operand). op.Call c.in-Call.func x c.in-Call.results) c.as_slice.ensures ∙ sym c.in-Call.is)
    c.call_function.ensures.met

pub returns-in_default-clause-met : goal.returns-in_default-clause-met
returns-in_default-clause-met g c =
    performed_met (codeless g.T.ResourceLimiter.growths g.E.EpochSource.readings) c.turns-limit.result
    (operation c.args.store.now.machine (scope_of c.args.scope.now) c.args.op.now)
    (surrounded c.args.store.now tt c.args.epochs.now) (surrounded c.perform.new.store tt c.perform.new.epochs)
    c.perform.result c.perform.ensures.performed
