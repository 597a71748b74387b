use Rattle.std.proofs.Common.{refl}
use Rattle.spec_machine.specs.declared.command.Command.TheVariants as command
use Rattle.code_hosts.specs.Asked.{asked}
use Rattle.wasm_call.specs.Outside.{surrounded}
use Rattle.wasm_session.proofs.CommandLemmas.{command_over, cut_over, command_around, cut_around, func_short}
use Rattle.wasm_session.proofs.commands.perform.Goals as goal

pub returns-in-FuncNew-clause-answered : goal.returns-in-FuncNew-clause-answered
returns-in-FuncNew-clause-answered g c =
    rw c.in-FuncNew.is (command_around (asked g.T.ResourceLimiter.growths g.H.HostBody.has g.K.CallHooks.hooks g.B.DeadlineBehaviour.behaves
    g.E.EpochSource.readings g.H.HostBody.steps)
    c.args.host.now c.args.epochs.now c.args.modules.now c.args.replies.now
    (command.FuncNew c.in-FuncNew.ty c.in-FuncNew.body c.in-FuncNew.stored) c.args.store.now c.run_func_new.new.store c.run_func_new.result
    (rw c.as_slice.ensures at c.run_func_new.ensures.answered))

pub returns-in-FuncNew-clause-cut : goal.returns-in-FuncNew-clause-cut
returns-in-FuncNew-clause-cut g c =
    rw c.in-FuncNew.is (cut_around (asked g.T.ResourceLimiter.growths g.H.HostBody.has g.K.CallHooks.hooks g.B.DeadlineBehaviour.behaves
    g.E.EpochSource.readings g.H.HostBody.steps)
    c.args.host.now c.args.epochs.now c.args.modules.now c.args.replies.now
    (command.FuncNew c.in-FuncNew.ty c.in-FuncNew.body c.in-FuncNew.stored) c.args.store.now c.run_func_new.new.store c.run_func_new.result
    (rw c.as_slice.ensures at c.run_func_new.ensures.cut))

pub returns-in-Op-clause-answered : goal.returns-in-Op-clause-answered
returns-in-Op-clause-answered g c =
    rw c.in-Op.is (command_over _ c.args.modules.now c.args.replies.now (command.Op c.in-Op.op)
    (surrounded c.args.store.now c.args.host.now c.args.epochs.now)
    (surrounded c.run_op.new.store c.run_op.new.host c.run_op.new.epochs)
    c.run_op.result c.run_op.ensures.answered)

pub returns-in-Op-clause-cut : goal.returns-in-Op-clause-cut
returns-in-Op-clause-cut g c =
    rw c.in-Op.is (cut_over _ c.args.modules.now c.args.replies.now (command.Op c.in-Op.op)
    (surrounded c.args.store.now c.args.host.now c.args.epochs.now)
    (surrounded c.run_op.new.store c.run_op.new.host c.run_op.new.epochs)
    c.run_op.result c.run_op.ensures.cut)

pub returns-in-FuncNew-clause-short : goal.returns-in-FuncNew-clause-short
returns-in-FuncNew-clause-short g c =
    rw c.in-FuncNew.is (func_short g.T.ResourceLimiter.growths c.args.host.now c.args.epochs.now c.args.replies.now
    c.in-FuncNew.ty c.in-FuncNew.body c.in-FuncNew.stored c.args.store.now c.run_func_new.new.store
    c.run_func_new.result (rw c.as_slice.ensures at c.run_func_new.ensures.cut))

pub returns-in-Instantiate-clause-short : goal.returns-in-Instantiate-clause-short
returns-in-Instantiate-clause-short g c =
    rw c.in-Instantiate.is (rw c.as_slice-in-Instantiate.ensures at c.run_instantiate.ensures.short)

pub returns-in-Op-clause-short : goal.returns-in-Op-clause-short
returns-in-Op-clause-short g c = rw c.in-Op.is c.run_op.ensures.short
