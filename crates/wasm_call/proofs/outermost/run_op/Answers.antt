use Rattle.std.specs.Prelude.{[]}
use Rattle.spec_machine.specs.declared.command.Command.TheVariants as command
use Rattle.code_hosts.specs.Asked.{asked}
use Rattle.wasm_call.specs.Outside.{surrounded}
use Rattle.wasm_call.proofs.CauseLemmas.{steps_by_counts_on}
use Rattle.std.proofs.Common.{◌≡◌, ap, subst}
use Rattle.std.specs.Prelude.{IfSome, Ok}
use Rattle.spec_machine.specs.Commands.{operation}
use Rattle.spec_machine.specs.Machine.{Machine}
use Rattle.spec_machine.specs.Names.{outermost}
use Rattle.spec_machine.specs.declared.reply.Reply.TheVariants.{Refused}
use Rattle.wasm_store.specs.Stores.{StoreParts}
use Rattle.wasm_call.specs.Room.{refusal_of}
use Rattle.wasm_call.proofs.CommandLemmas.{begun_around, operated_answered, operated_cut, operated_short}
use Rattle.wasm_call.proofs.RoomLemmas.{operated_refused}
use Rattle.wasm_call.proofs.outermost.run_op.Goals as goal

pub returns-clause-answered : goal.returns-clause-answered
returns-clause-answered g c = operated_answered _ c.args.replies.now c.args.op.now c.operate_outermost.result _ _ _
    (begun_around c.args.host.now c.args.epochs.now c.args.store.now c.begin_turns.new.store c.begin_turns.ensures.begun)
    (rw c.outermost-scope.ensures at c.operate_outermost.ensures.operated)

pub returns-clause-cut : goal.returns-clause-cut
returns-clause-cut g c = operated_cut _ c.args.replies.now c.args.op.now c.operate_outermost.result _ _ _
    (begun_around c.args.host.now c.args.epochs.now c.args.store.now c.begin_turns.new.store c.begin_turns.ensures.begun)
    (rw c.outermost-scope.ensures at c.operate_outermost.ensures.operated)

pub returns-clause-short : goal.returns-clause-short
returns-clause-short g c = operated_short _ c.args.replies.now c.args.op.now c.operate_outermost.result _ _ _
    (begun_around c.args.host.now c.args.epochs.now c.args.store.now c.begin_turns.new.store c.begin_turns.ensures.begun)
    (rw c.outermost-scope.ensures at c.operate_outermost.ensures.operated) c.operate_outermost.ensures.room
    (rw c.outermost-scope.ensures at c.operate_outermost.ensures.met)

pub returns-clause-refused : goal.returns-clause-refused
returns-clause-refused g c =
    subst (λ (m : Machine). IfSome (refusal_of (operation m (outermost c.args.replies.now) c.args.op.now))
    (λ why. c.operate_outermost.result ≡ Ok (Refused why)))
    (ap (λ (s : StoreParts _). s.machine) c.begin_turns.ensures.begun)
    (operated_refused _ (outermost c.args.replies.now) c.args.op.now c.operate_outermost.result _ _
    (rw c.outermost-scope.ensures at c.operate_outermost.ensures.operated) (rw c.outermost-scope.ensures at c.operate_outermost.ensures.met))

pub returns-clause-causes : goal.returns-clause-causes
returns-clause-causes g c =
    steps_by_counts_on (asked g.T.ResourceLimiter.growths g.H.HostBody.has g.K.CallHooks.hooks g.B.DeadlineBehaviour.behaves
    g.E.EpochSource.readings g.H.HostBody.steps) _ _ _ _ _ _ c.law_failures_are_counted.ensures [] (command.Op c.args.op.now)
    (surrounded c.args.store.now c.args.host.now c.args.epochs.now)
    (surrounded c.operate_outermost.new.store c.operate_outermost.new.host c.operate_outermost.new.epochs) c.args.replies.now c.operate_outermost.result
    (operated_answered _ c.args.replies.now c.args.op.now c.operate_outermost.result _ _ _
    (begun_around c.args.host.now c.args.epochs.now c.args.store.now c.begin_turns.new.store c.begin_turns.ensures.begun)
    (rw c.outermost-scope.ensures at c.operate_outermost.ensures.operated))
