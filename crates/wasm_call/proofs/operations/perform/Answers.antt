use Rattle.spec_machine.specs.Commands.{operation}
use Rattle.wasm_host.specs.Scopes.{scope_of}
use Rattle.wasm_call.proofs.Plain.{performed_engine}
use Rattle.wasm_call.proofs.SurroundedLemmas.{asks_limiter_alone, performed_beside}
use Rattle.wasm_call.proofs.operations.perform.Goals as goal

pub perform_unread-requires : goal.perform_unread-requires
perform_unread-requires g c = record {
  fresh = c.requires.fresh;
  some_turns = c.requires.some_turns;
  plain = asks_limiter_alone c.args.op.now c.requires.plain c.in_default.not-SetEpochDeadline;
}

pub returns-in_default : goal.returns-in_default
returns-in_default g c =
    let plain = asks_limiter_alone c.args.op.now c.requires.plain c.in_default.not-SetEpochDeadline in
    record {
      performed = performed_beside g.T.ResourceLimiter.growths g.E.EpochSource.readings c.args.epochs.now c.args.limit
          (operation c.args.store.now.machine (scope_of c.args.scope.now) c.args.op.now) c.args.store.now
          c.perform_unread.result c.perform_unread.new.store c.perform_unread.ensures.performed;
      room = c.perform_unread.ensures.room;
      engine = performed_engine g.T.ResourceLimiter.growths c.args.limit (scope_of c.args.scope.now) c.args.op.now
          c.perform_unread.result c.args.store.now c.perform_unread.new.store plain c.perform_unread.ensures.performed;
    }
