use Rattle.std.proofs.Common.{refl, ap, inl, inr}
use Rattle.code_hosts.specs.Asked.{asked}
use Rattle.wasm_store.specs.Stores.{StoreParts}
use Rattle.wasm_call.specs.Outside.{surrounded}
use Rattle.wasm_session.proofs.UnbegunLemmas.{unbegun_breaks}
use Rattle.wasm_session.proofs.replies.Replies.answer.Goals as goal

pub returns-in_default-clause-unfinished : goal.returns-in_default-clause-unfinished
returns-in_default-clause-unfinished g c =
    rw (c.reserve.ensures.items, c.self.view_is)
    (unbegun_breaks (asked g.T.ResourceLimiter.growths g.H.HostBody.has g.K.CallHooks.hooks g.B.DeadlineBehaviour.behaves
    g.E.EpochSource.readings g.H.HostBody.steps) c.args.host.now c.args.epochs.now
    c.args.modules.now c.args.store.now c.args.self.now c.keeps_well_formed.ensures
    c.args.command.now c.set_turns.new.store c.set_turns.ensures)

pub returns-in_default-clause-short : goal.returns-in_default-clause-short
returns-in_default-clause-short g c =
    inl (ap (λ (s : StoreParts _). surrounded s c.args.host.now c.args.epochs.now) c.set_turns.ensures)

pub returns-in-Err-clause-short : goal.returns-in-Err-clause-short
returns-in-Err-clause-short g c =
    inr (rw (c.as_slice.ensures.value, c.reserve.ensures.items, c.self.view_is) at c.in-Err.ensures.short)
