use Rattle.code_hosts.specs.Asked.{asked}
use Rattle.wasm_call.specs.Outside.{surrounded}
use Rattle.law_plugins.specs.Showing.{ShowsStep}
use Rattle.guest_calls.proofs.EndLemmas.{load_keeps_all, load_added}
use Rattle.guest_calls.proofs.guarded.make_guest.Goals as goal

pub returns-clause-guests : goal.returns-clause-guests
returns-clause-guests g c = λ guests are none.
    load_keeps_all (asked g.T.ResourceLimiter.growths (λ h body. g.H.HostBody.has h.inner body) g.K.CallHooks.hooks
    g.B.DeadlineBehaviour.behaves g.E.EpochSource.readings
    (λ h s body state cause view after say k t.
    ShowsStep g.H.HostBody.steps h.inner h.faults s body state cause view after say k.inner k.faults t))
    (λ h k s t body state after cause seen what i. (i.said, i.shown))
    (surrounded c.args.store.now c.args.host.now c.args.epochs.now)
    (surrounded c.new.new.store c.new.new.host c.new.new.epochs) c.keeps_well_formed.ensures guests are
    c.args.module.now c.args.imports.now c.decl.ensures.is_module none c.new.result c.new.ensures.instantiated

pub returns-clause-added : goal.returns-clause-added
returns-clause-added g c =
    load_added (asked g.T.ResourceLimiter.growths (λ h body. g.H.HostBody.has h.inner body) g.K.CallHooks.hooks
    g.B.DeadlineBehaviour.behaves g.E.EpochSource.readings
    (λ h s body state cause view after say k t.
    ShowsStep g.H.HostBody.steps h.inner h.faults s body state cause view after say k.inner k.faults t))
    (λ h k s t body state after cause seen what i. (i.said, i.shown))
    (surrounded c.args.store.now c.args.host.now c.args.epochs.now)
    (surrounded c.new.new.store c.new.new.host c.new.new.epochs) c.keeps_well_formed.ensures
    c.args.module.now c.args.imports.now c.decl.ensures.is_module c.new.result c.new.ensures.instantiated
