use Rattle.std.specs.Prelude.{Err}
use Rattle.spec_machine.specs.Commands.{operation}
use Rattle.wasm_call.specs.Outside.{surrounded}
use Rattle.wasm_host.specs.Scopes.{scope_of}
use Rattle.wasm_call.specs.Alone.{codeless}
use Rattle.wasm_call.proofs.KeptLemmas.{performed_keeps}
use Rattle.wasm_call.proofs.RoomLemmas.{performed_met}
use Rattle.wasm_call.proofs.OperatedLemmas.{none_left, performed_does, short_lacks}
use Rattle.wasm_call.proofs.body_operations.do_plain.Goals as goal

pub returns-then-left-eq0-clause-does : goal.returns-then-left-eq0-clause-does
returns-then-left-eq0-clause-does g c =
    none_left g.T.ResourceLimiter.growths g.E.EpochSource.readings (scope_of c.args.scope.now) c.args.op.now c.args.left
    (surrounded c.args.store.now tt c.args.epochs.now) c.requires.plain c.if-left-eq0.true

pub returns-in-Ok-clause-does : goal.returns-in-Ok-clause-does
returns-in-Ok-clause-does g c =
    performed_does g.T.ResourceLimiter.growths g.E.EpochSource.readings (scope_of c.args.scope.now) c.args.op.now
    c.args.left (surrounded c.args.store.now tt c.args.epochs.now) c.requires.plain
    (surrounded c.perform.new.store tt c.perform.new.epochs) c.perform.result c.perform.ensures.performed c.in-Ok.answer
    c.in-Ok.is c.turns-spent.result c.turns-spent.ensures c.reached.result c.reached.ensures.limit
    c.reached.ensures.replies

pub returns-in-Ok-clause-keeps : goal.returns-in-Ok-clause-keeps
returns-in-Ok-clause-keeps g c =
    performed_keeps (codeless g.T.ResourceLimiter.growths g.E.EpochSource.readings) c.args.left
    (scope_of c.args.scope.now) c.args.op.now c.perform.result
    (surrounded c.args.store.now tt c.args.epochs.now) (surrounded c.perform.new.store tt c.perform.new.epochs)
    c.requires.plain c.perform.ensures.performed

pub returns-in-Err-clause-lacks : goal.returns-in-Err-clause-lacks
returns-in-Err-clause-lacks g c =
    short_lacks g.T.ResourceLimiter.growths g.E.EpochSource.readings (scope_of c.args.scope.now) c.args.op.now c.args.left
    (surrounded c.args.store.now tt c.args.epochs.now) c.requires.plain
    (surrounded c.perform.new.store tt c.perform.new.epochs) c.perform.result c.perform.ensures.performed c.in-Err.field-0
    c.in-Err.is c.turns.result c.turns.ensures

pub returns-in-Err-clause-met : goal.returns-in-Err-clause-met
returns-in-Err-clause-met g c =
    performed_met (codeless g.T.ResourceLimiter.growths g.E.EpochSource.readings) c.args.left
    (operation c.args.store.now.machine (scope_of c.args.scope.now) c.args.op.now)
    (surrounded c.args.store.now tt c.args.epochs.now) (surrounded c.perform.new.store tt c.perform.new.epochs)
    (Err c.in-Err.field-0) c.in-Err.ensures.performed
