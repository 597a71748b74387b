use Rattle.std.proofs.Common.{sym, ap, ◌∙◌}
use Rattle.law_replay.specs.declared.step.TapedStep.{TapedStep}
use Rattle.wasm_replay.specs.Kept.{KeptParts}
use Rattle.wasm_replay.proofs.CallLemmas.{on_ok, if_err, ran_lent, stops_recorded}
use Rattle.wasm_replay.proofs.recording.run_lent.Goals as goal

pub returns-clause-ran : goal.returns-clause-ran
returns-clause-ran g c =
    rw (
      c.host-1.given.1 (sym (c.run_wrapped-ended.ensures.same_host ∙ c.new-taping.ensures.same_host)),
      c.epochs-1.given.1 (sym (c.run_wrapped-ended.ensures.same_epochs ∙ c.new-taped.ensures.same_epochs)),
      c.steps-1.given.1 (sym (c.run_wrapped-ended.ensures.same_steps ∙ c.new-taping.ensures.same_steps)),
      c.readings-1.given.1 (sym (c.run_wrapped-ended.ensures.same_readings ∙ c.new-taped.ensures.same_readings)),
    )
    (on_ok c.run_wrapped-ended.result _ _
    (λ d. rw (c.new-taping.ensures.host, c.new-taped.ensures.epochs) at
    (ran_lent g.T.ResourceLimiter.growths g.H.HostBody.has g.E.EpochSource.readings g.H.HostBody.steps
    g.met.H.TapedHost.keeps_record c.args.bodies c.args.readings.now.room c.args.store.now
    c.run_wrapped-ended.new.store c.new-taping.result c.run_wrapped-ended.new.taping c.new-taped.result
    c.run_wrapped-ended.new.taped c.new-taping.ensures.bodies (c.new-taped.ensures.readings ∙ c.requires.readings)
    c.new-taped.ensures.past c.args.modules.now c.args.commands.now c.args.replies.now c.run_wrapped-ended.new.replies
    (ap (λ (k : KeptParts TapedStep). k.items) c.new-taping.ensures.steps ∙ c.requires.steps) c.requires.fresh d))
    c.run_wrapped-ended.ensures.done)

pub returns-clause-unfinished : goal.returns-clause-unfinished
returns-clause-unfinished g c =
    rw (
      c.host-1.given.1 (sym (c.run_wrapped-ended.ensures.same_host ∙ c.new-taping.ensures.same_host)),
      c.epochs-1.given.1 (sym (c.run_wrapped-ended.ensures.same_epochs ∙ c.new-taped.ensures.same_epochs)),
    )
    (if_err c.run_wrapped-ended.result _ _
    (λ unfinished s. rw (c.new-taping.ensures.host, c.new-taped.ensures.epochs) at
    (stops_recorded g.T.ResourceLimiter.growths g.H.HostBody.has g.E.EpochSource.readings g.H.HostBody.steps
    g.met.H.TapedHost.keeps_record c.args.bodies c.args.readings.now.room c.args.store.now
    c.run_wrapped-ended.new.store c.new-taping.result c.run_wrapped-ended.new.taping c.new-taped.result
    c.run_wrapped-ended.new.taped c.new-taping.ensures.bodies (c.new-taped.ensures.readings ∙ c.requires.readings)
    c.new-taped.ensures.past c.args.modules.now c.args.commands.now c.args.replies.now c.run_wrapped-ended.new.replies
    unfinished.turns s))
    c.run_wrapped-ended.ensures.unfinished)
