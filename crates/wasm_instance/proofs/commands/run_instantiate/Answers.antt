use Rattle.std.proofs.Common.{refl}
use Rattle.std.specs.Prelude.{Err}
use Rattle.spec_machine.specs.Names.{outermost, named_objects}
use Rattle.spec_machine.specs.declared.command.Command.TheVariants as command
use Rattle.code_hosts.specs.Asked as hosts
use Rattle.wasm_call.specs.Outside.{asked, surrounded}
use Rattle.wasm_call.proofs.CauseLemmas.{said_by_counts}
use Rattle.wasm_call.proofs.CommandLemmas.{begun_around}
use Rattle.wasm_call.proofs.ReplyLemmas.{mapped_none}
use Rattle.wasm_instance.proofs.CommandLemmas.{begun_cut, unlisted_answered, no_objects, no_module, answered, failed_answered, failed_cut, names_are}
use Rattle.wasm_instance.proofs.ShortLemmas.{unlisted_short, named_short}
use Rattle.wasm_instance.proofs.commands.run_instantiate.Goals as goal

pub returns-in_default-clause-answered : goal.returns-in_default-clause-answered
returns-in_default-clause-answered g c =
    unlisted_answered (asked g.T.ResourceLimiter.growths g.H.HostBody.has g.K.CallHooks.hooks g.B.DeadlineBehaviour.behaves
    g.E.EpochSource.readings g.H.HostBody.steps) c.args.modules.now
    c.args.number c.args.imports.now (surrounded c.args.store.now c.args.host.now c.args.epochs.now)
    (surrounded c.begin_turns.new.store c.args.host.now c.args.epochs.now) c.args.replies.now
    (begun_around c.args.host.now c.args.epochs.now c.args.store.now c.begin_turns.new.store c.begin_turns.ensures.begun)
    c.in_default.ensures.short c.unlisted.result c.unlisted.ensures.refused

pub returns-in_default-clause-cut : goal.returns-in_default-clause-cut
returns-in_default-clause-cut g c =
    begun_cut (asked g.T.ResourceLimiter.growths g.H.HostBody.has g.K.CallHooks.hooks g.B.DeadlineBehaviour.behaves
    g.E.EpochSource.readings g.H.HostBody.steps) c.args.modules.now
    c.args.number c.args.imports.now (surrounded c.args.store.now c.args.host.now c.args.epochs.now)
    (surrounded c.begin_turns.new.store c.args.host.now c.args.epochs.now) c.args.replies.now
    (begun_around c.args.host.now c.args.epochs.now c.args.store.now c.begin_turns.new.store c.begin_turns.ensures.begun)
    c.unlisted.result

pub returns-in_default-clause-short : goal.returns-in_default-clause-short
returns-in_default-clause-short g c =
    unlisted_short (asked g.T.ResourceLimiter.growths g.H.HostBody.has g.K.CallHooks.hooks g.B.DeadlineBehaviour.behaves
    g.E.EpochSource.readings g.H.HostBody.steps) c.args.modules.now c.args.replies.now c.args.number c.args.imports.now
    (surrounded c.args.store.now c.args.host.now c.args.epochs.now)
    (surrounded c.begin_turns.new.store c.args.host.now c.args.epochs.now)
    (begun_around c.args.host.now c.args.epochs.now c.args.store.now c.begin_turns.new.store c.begin_turns.ensures.begun)
    c.in_default.ensures.short c.unlisted.result c.unlisted.ensures.short

pub returns-in_default-named-clause-answered : goal.returns-in_default-named-clause-answered
returns-in_default-named-clause-answered g c =
    no_objects (asked g.T.ResourceLimiter.growths g.H.HostBody.has g.K.CallHooks.hooks g.B.DeadlineBehaviour.behaves
    g.E.EpochSource.readings g.H.HostBody.steps) c.args.modules.now
    c.args.number c.args.imports.now (surrounded c.args.store.now c.args.host.now c.args.epochs.now)
    (surrounded c.begin_turns.new.store c.args.host.now c.args.epochs.now) c.args.replies.now
    (begun_around c.args.host.now c.args.epochs.now c.args.store.now c.begin_turns.new.store c.begin_turns.ensures.begun)
    (mapped_none _ _ _ c.in_default-named.is c.in-Ok.ensures.found)

pub returns-in_default-module_at-clause-answered : goal.returns-in_default-module_at-clause-answered
returns-in_default-module_at-clause-answered g c =
    no_module _ c.args.modules.now c.args.number c.args.imports.now (surrounded c.args.store.now c.args.host.now c.args.epochs.now)
    (surrounded c.begin_turns.new.store c.args.host.now c.args.epochs.now) c.args.replies.now
    (begun_around c.args.host.now c.args.epochs.now c.args.store.now c.begin_turns.new.store c.begin_turns.ensures.begun)
    c.in-Some.found.items
    (names_are c.in-Ok.named c.in-Some.found c.in-Some.found.items
    (named_objects (outermost c.args.replies.now) c.args.imports.now) c.in-Ok.ensures.found c.in-Some.is refl)
    c.in_default-module_at.ensures

pub returns-in-Ok-new-clause-answered : goal.returns-in-Ok-new-clause-answered
returns-in-Ok-new-clause-answered g c =
    answered _ c.args.modules.now c.args.number c.args.imports.now (surrounded c.args.store.now c.args.host.now c.args.epochs.now)
    (surrounded c.begin_turns.new.store c.args.host.now c.args.epochs.now) c.args.replies.now
    (begun_around c.args.host.now c.args.epochs.now c.args.store.now c.begin_turns.new.store c.begin_turns.ensures.begun)
    c.as_slice.result.now
    (names_are c.in-Ok.named c.in-Some.found c.as_slice.result.now
    (named_objects (outermost c.args.replies.now) c.args.imports.now) c.in-Ok.ensures.found c.in-Some.is
    c.as_slice.ensures.value)
    c.in-Some-module_at.validated.now c.in-Some-module_at.ensures _ (surrounded c.new.new.store c.new.new.host c.new.new.epochs)
    c.in-Ok-new.ensures.instantiated

pub returns-clause-answered : goal.returns-clause-answered
returns-clause-answered g c =
    failed_answered _ c.args.modules.now c.args.number c.args.imports.now
    (surrounded c.args.store.now c.args.host.now c.args.epochs.now)
    (surrounded c.begin_turns.new.store c.args.host.now c.args.epochs.now) c.args.replies.now
    (begun_around c.args.host.now c.args.epochs.now c.args.store.now c.begin_turns.new.store c.begin_turns.ensures.begun)
    c.as_slice.result.now
    (names_are c.in-Ok.named c.in-Some.found c.as_slice.result.now
    (named_objects (outermost c.args.replies.now) c.args.imports.now) c.in-Ok.ensures.found c.in-Some.is
    c.as_slice.ensures.value)
    c.in-Some-module_at.validated.now c.in-Some-module_at.ensures c.in-Err.why
    (surrounded c.new.new.store c.new.new.host c.new.new.epochs) c.refused.result
    c.refused.ensures.refused c.in-Err.ensures.instantiated

pub returns-clause-cut : goal.returns-clause-cut
returns-clause-cut g c =
    failed_cut _ c.args.modules.now c.args.number c.args.imports.now (surrounded c.args.store.now c.args.host.now c.args.epochs.now)
    (surrounded c.begin_turns.new.store c.args.host.now c.args.epochs.now) c.args.replies.now
    (begun_around c.args.host.now c.args.epochs.now c.args.store.now c.begin_turns.new.store c.begin_turns.ensures.begun)
    c.as_slice.result.now
    (names_are c.in-Ok.named c.in-Some.found c.as_slice.result.now
    (named_objects (outermost c.args.replies.now) c.args.imports.now) c.in-Ok.ensures.found c.in-Some.is
    c.as_slice.ensures.value)
    c.in-Some-module_at.validated.now c.in-Some-module_at.ensures c.in-Err.why
    (surrounded c.new.new.store c.new.new.host c.new.new.epochs) c.refused.result
    c.refused.ensures.short c.in-Err.ensures.instantiated

pub returns-clause-short : goal.returns-clause-short
returns-clause-short g c =
    named_short (asked g.T.ResourceLimiter.growths g.H.HostBody.has g.K.CallHooks.hooks g.B.DeadlineBehaviour.behaves
    g.E.EpochSource.readings g.H.HostBody.steps) c.args.modules.now c.args.replies.now c.args.number c.args.imports.now
    (surrounded c.args.store.now c.args.host.now c.args.epochs.now)
    (surrounded c.new.new.store c.new.new.host c.new.new.epochs) c.in-Some-module_at.validated.now
    c.as_slice.result.now c.in-Some-module_at.ensures
    (names_are c.in-Ok.named c.in-Some.found c.as_slice.result.now
    (named_objects (outermost c.args.replies.now) c.args.imports.now) c.in-Ok.ensures.found c.in-Some.is
    c.as_slice.ensures.value)
    (surrounded c.begin_turns.new.store c.args.host.now c.args.epochs.now)
    (begun_around c.args.host.now c.args.epochs.now c.args.store.now c.begin_turns.new.store c.begin_turns.ensures.begun)
    c.in-Err.why (Err c.in-Err.why) refl c.in-Err.ensures.short c.refused.result c.refused.ensures.short

pub returns-in_default-clause-causes : goal.returns-in_default-clause-causes
returns-in_default-clause-causes g c =
    said_by_counts (hosts.asked g.T.ResourceLimiter.growths g.H.HostBody.has g.K.CallHooks.hooks g.B.DeadlineBehaviour.behaves
    g.E.EpochSource.readings g.H.HostBody.steps) _ _ _ _ _ _ c.law_failures_are_counted.ensures c.args.modules.now
    (command.Instantiate c.args.number c.args.imports.now) (surrounded c.args.store.now c.args.host.now c.args.epochs.now)
    (surrounded c.begin_turns.new.store c.args.host.now c.args.epochs.now) c.args.replies.now c.unlisted.result
    (returns-in_default-clause-answered g c)

pub returns-clause-causes : goal.returns-clause-causes
returns-clause-causes g c =
    said_by_counts (hosts.asked g.T.ResourceLimiter.growths g.H.HostBody.has g.K.CallHooks.hooks g.B.DeadlineBehaviour.behaves
    g.E.EpochSource.readings g.H.HostBody.steps) _ _ _ _ _ _ c.law_failures_are_counted.ensures c.args.modules.now
    (command.Instantiate c.args.number c.args.imports.now) (surrounded c.args.store.now c.args.host.now c.args.epochs.now)
    (surrounded c.new.new.store c.new.new.host c.new.new.epochs) c.args.replies.now c.refused.result
    (returns-clause-answered g c)
