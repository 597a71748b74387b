use Rattle.std.proofs.Common.{arith}
use Rattle.std.specs.Prelude.{[]}
use Rattle.code_hosts.specs.Asked.{asked}
use Rattle.wasm_call.proofs.StartLemmas.{returns_nothing, unfinished_well, unfinished_started, replied_unstuck, replied_well, replied_started}
use Rattle.wasm_call.proofs.start_functions.run_start.Goals as goal

pub run_parts-requires-clause-safe : goal.run_parts-requires-clause-safe
run_parts-requires-clause-safe g c =
    ([], returns_nothing c.args.parts.now c.args.function c.args.instance c.args.turns c.requires.safe c.requires.few)

pub run_parts-requires-clause-few : goal.run_parts-requires-clause-few
run_parts-requires-clause-few g c = omega (arith, c.requires.few)

pub returns-in-Err-clause-started : goal.returns-in-Err-clause-started
returns-in-Err-clause-started g c =
    unfinished_started (asked g.T.ResourceLimiter.growths g.H.HostBody.has g.K.CallHooks.hooks g.B.DeadlineBehaviour.behaves
    g.E.EpochSource.readings g.H.HostBody.steps) c.args.parts.now c.args.function c.args.instance c.args.turns c.requires.safe
    c.requires.few c.args.store.now.host_data c.run_parts.new.store.host_data c.args.host.now
    c.run_parts.new.host c.args.epochs.now c.run_parts.new.epochs
    c.run_parts.new.parts c.run_parts.ensures.rest c.in-Err.unfinished
    c.in-Err.ensures.unfinished c.start_unfinished.result.result
    c.start_unfinished.result.turns c.start_unfinished.ensures.result c.start_unfinished.ensures.turns

pub returns-in-Err-clause-formed : goal.returns-in-Err-clause-formed
returns-in-Err-clause-formed g c =
    unfinished_well (asked g.T.ResourceLimiter.growths g.H.HostBody.has g.K.CallHooks.hooks g.B.DeadlineBehaviour.behaves
    g.E.EpochSource.readings g.H.HostBody.steps) c.args.parts.now c.args.function c.args.instance c.args.turns c.requires.safe
    c.requires.few c.args.store.now.host_data c.run_parts.new.store.host_data c.args.host.now
    c.run_parts.new.host c.args.epochs.now c.run_parts.new.epochs
    c.run_parts.new.parts c.run_parts.ensures.rest c.in-Err.unfinished
    c.in-Err.ensures.unfinished

pub start_told-requires : goal.start_told-requires
start_told-requires g c =
    replied_unstuck (asked g.T.ResourceLimiter.growths g.H.HostBody.has g.K.CallHooks.hooks g.B.DeadlineBehaviour.behaves
    g.E.EpochSource.readings g.H.HostBody.steps) c.args.parts.now c.args.function c.args.instance c.args.turns c.requires.safe
    c.requires.few c.args.store.now.host_data c.run_parts.new.store.host_data c.args.host.now
    c.run_parts.new.host c.args.epochs.now c.run_parts.new.epochs
    c.run_parts.new.parts c.run_parts.ensures.rest c.in-Ok.reply
    c.in-Ok.ensures.replied

pub returns-in-Ok-clause-started : goal.returns-in-Ok-clause-started
returns-in-Ok-clause-started g c =
    replied_started (asked g.T.ResourceLimiter.growths g.H.HostBody.has g.K.CallHooks.hooks g.B.DeadlineBehaviour.behaves
    g.E.EpochSource.readings g.H.HostBody.steps) c.args.parts.now c.args.function c.args.instance c.args.turns c.requires.safe
    c.requires.few c.args.store.now.host_data c.run_parts.new.store.host_data c.args.host.now
    c.run_parts.new.host c.args.epochs.now c.run_parts.new.epochs
    c.run_parts.new.parts c.run_parts.ensures.rest c.in-Ok.reply
    c.in-Ok.ensures.replied c.start_told.result c.start_told.ensures

pub returns-in-Ok-clause-formed : goal.returns-in-Ok-clause-formed
returns-in-Ok-clause-formed g c =
    replied_well (asked g.T.ResourceLimiter.growths g.H.HostBody.has g.K.CallHooks.hooks g.B.DeadlineBehaviour.behaves
    g.E.EpochSource.readings g.H.HostBody.steps) c.args.parts.now c.args.function c.args.instance c.args.turns c.requires.safe
    c.requires.few c.args.store.now.host_data c.run_parts.new.store.host_data c.args.host.now
    c.run_parts.new.host c.args.epochs.now c.run_parts.new.epochs
    c.run_parts.new.parts c.run_parts.ensures.rest c.in-Ok.reply
    c.in-Ok.ensures.replied
