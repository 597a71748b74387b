use Rattle.code_hosts.specs.Asked.{asked}
use Rattle.code_hosts.specs.Contexts.{IsFormedIn}
use Rattle.code_hosts.specs.Entering.{calling}
use Rattle.wasm_call.proofs.OutsideLemmas.{stays_formed, call_replied, call_unfinished, call_keeps}
use Rattle.wasm_call.specs.Asking.{Keeps}
use Rattle.wasm_call.proofs.invocations.call_outside.Given.{Over}
use Rattle.wasm_call.proofs.invocations.call_outside.Goals as goal
use Rattle.wasm_call.proofs.invocations.call_outside.Goals.{After-run_from_outside}

pub run_from_outside-requires-clause-kept : goal.run_from_outside-requires-clause-kept
run_from_outside-requires-clause-kept g c =
    stays_formed (asked g.T.ResourceLimiter.growths g.H.HostBody.has g.K.CallHooks.hooks g.B.DeadlineBehaviour.behaves
    g.E.EpochSource.readings g.H.HostBody.steps) g.H.HostBody.ready c.args.context.now c.args.world.now c.requires.fits
    (calling c.args.invocation.now.number c.args.invocation.now.arguments.now c.args.invocation.now.caller) c.args.held.now
    c.args.context.now.bounds.turns (IsFormedIn c.args.context.now) c.requires.kept

module _ (g : Over) (c : After-run_from_outside g) where
  keeps : Keeps g.H.HostBody.ready c.args.world.now c.run_from_outside.new.world
  keeps =
      call_keeps (asked g.T.ResourceLimiter.growths g.H.HostBody.has g.K.CallHooks.hooks g.B.DeadlineBehaviour.behaves
      g.E.EpochSource.readings g.H.HostBody.steps) g.H.HostBody.ready c.args.context.now c.args.world.now c.requires.fits
      (calling c.args.invocation.now.number c.args.invocation.now.arguments.now c.args.invocation.now.caller) c.args.held.now
      c.args.context.now.bounds.turns c.run_from_outside.new.held c.run_from_outside.new.world c.run_from_outside.result
      c.run_from_outside.ensures.reply c.run_from_outside.ensures.memory

pub returns-clause-same_store : goal.returns-clause-same_store
returns-clause-same_store g c = (keeps g c).same_store

pub returns-clause-same_host : goal.returns-clause-same_host
returns-clause-same_host g c = (keeps g c).same_host

pub returns-clause-same_epochs : goal.returns-clause-same_epochs
returns-clause-same_epochs g c = (keeps g c).same_epochs

pub returns-clause-same_hold : goal.returns-clause-same_hold
returns-clause-same_hold g c = (keeps g c).same_hold

pub returns-clause-store : goal.returns-clause-store
returns-clause-store g c = (keeps g c).store_kept

pub returns-clause-replied : goal.returns-clause-replied
returns-clause-replied g c =
    call_replied (asked g.T.ResourceLimiter.growths g.H.HostBody.has g.K.CallHooks.hooks g.B.DeadlineBehaviour.behaves
    g.E.EpochSource.readings g.H.HostBody.steps) g.H.HostBody.ready c.args.context.now c.args.world.now c.requires.fits
    (calling c.args.invocation.now.number c.args.invocation.now.arguments.now c.args.invocation.now.caller) c.args.held.now
    c.args.context.now.bounds.turns c.run_from_outside.new.held c.run_from_outside.new.world c.run_from_outside.result
    c.run_from_outside.ensures.reply

pub returns-clause-unfinished : goal.returns-clause-unfinished
returns-clause-unfinished g c =
    call_unfinished (asked g.T.ResourceLimiter.growths g.H.HostBody.has g.K.CallHooks.hooks g.B.DeadlineBehaviour.behaves
    g.E.EpochSource.readings g.H.HostBody.steps) g.H.HostBody.ready c.args.context.now c.args.world.now c.requires.fits
    (calling c.args.invocation.now.number c.args.invocation.now.arguments.now c.args.invocation.now.caller) c.args.held.now
    c.args.context.now.bounds.turns c.run_from_outside.new.held c.run_from_outside.new.world c.run_from_outside.result
    c.run_from_outside.ensures.memory
