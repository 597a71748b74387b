use Rattle.std.proofs.Common.{refl, ◌∙◌, arith}
use Rattle.code_hosts.specs.Asked.{asked}
use Rattle.wasm_session.proofs.CauseLemmas.{run_causes_none, run_causes_more, run_causes_break, run_caused}
use Rattle.wasm_session.proofs.ConfinedLemmas.{run_confined, stop_confined}
use Rattle.wasm_session.proofs.Parts.{runs_none, runs_more, runs_stop, runs_short}
use Rattle.wasm_session.proofs.commands.run_commands.Goals as goal

pub loop-command-init : goal.loop-command-init
loop-command-init g c = record {
  ran = runs_none _ c.args.modules.now c.args.commands.now _ _;
  as_many =
      omega arith;
  ready = c.requires.ready;
  engine = refl;
  causes = run_causes_none (asked g.T.ResourceLimiter.growths g.H.HostBody.has g.K.CallHooks.hooks
      g.B.DeadlineBehaviour.behaves g.E.EpochSource.readings g.H.HostBody.steps) _ _ _ _ _ _
      c.law_failures_are_counted.ensures c.args.modules.now c.args.commands.now _ _;
}

pub loop-command-preserved : goal.loop-command-preserved
loop-command-preserved g c = record {
  ran = runs_more _ c.args.modules.now c.args.commands.now c.loop-command.command-index c.command-item.result _ _ _ _
      _ _ (omega arith) c.command-item.is c.loop-command.invariant.ran c.in_default.ensures.done;
  as_many = omega (arith, c.loop-command.invariant.as_many, c.in_default.ensures.answered);
  ready = c.in_default.ensures.ready;
  engine = c.in_default.ensures.engine ∙ c.loop-command.invariant.engine;
  causes = run_causes_more (asked g.T.ResourceLimiter.growths g.H.HostBody.has g.K.CallHooks.hooks
      g.B.DeadlineBehaviour.behaves g.E.EpochSource.readings g.H.HostBody.steps) _ _ _ _ _ _
      c.law_failures_are_counted.ensures c.args.modules.now c.args.commands.now _ _ c.loop-command.command-index
      c.command-item.result _ _ _ _ (omega arith) c.command-item.is c.loop-command.invariant.as_many
      c.loop-command.invariant.ran c.in_default.ensures.done c.loop-command.invariant.causes;
}

pub returns-in-Err-clause-unfinished : goal.returns-in-Err-clause-unfinished
returns-in-Err-clause-unfinished g c = runs_stop _ c.args.modules.now c.args.commands.now c.loop-command.command-index
    _ c.command-item.result _ _ _ _ _ _ (omega arith) c.command-item.is c.loop-command.invariant.as_many
    c.loop-command.invariant.engine c.loop-command.invariant.ran c.in-Err.ensures.unfinished

pub returns-in-Err-clause-short : goal.returns-in-Err-clause-short
returns-in-Err-clause-short g c = runs_short _ c.args.modules.now c.args.commands.now c.loop-command.command-index
    _ c.command-item.result _ _ _ _ _ _ (omega arith) c.command-item.is c.loop-command.invariant.as_many
    c.loop-command.invariant.ran c.in-Err.ensures.unfinished c.in-Err.ensures.short

pub returns-in-Err-clause-unfinished_confined : goal.returns-in-Err-clause-unfinished_confined
returns-in-Err-clause-unfinished_confined g c =
    stop_confined _ c.args.modules.now _ _ _ _ c.args.commands.now _
    (runs_stop _ c.args.modules.now c.args.commands.now c.loop-command.command-index
    _ c.command-item.result _ _ _ _ _ _ (omega arith) c.command-item.is c.loop-command.invariant.as_many
    c.loop-command.invariant.engine c.loop-command.invariant.ran c.in-Err.ensures.unfinished)

pub returns-clause-confined : goal.returns-clause-confined
returns-clause-confined g c =
    run_confined _ c.args.modules.now _ _ _ _ c.args.commands.now c.loop-command.command-index
    (omega (arith, c.loop-command-test.false)) c.loop-command.invariant.ran

pub returns-clause-causes : goal.returns-clause-causes
returns-clause-causes g c =
    run_caused (asked g.T.ResourceLimiter.growths g.H.HostBody.has g.K.CallHooks.hooks g.B.DeadlineBehaviour.behaves
    g.E.EpochSource.readings g.H.HostBody.steps) _ _ _ _ _ _ c.law_failures_are_counted.ensures c.args.modules.now
    c.args.commands.now _ _ c.loop-command.command-index _ _ (omega (arith, c.loop-command-test.false))
    c.loop-command.invariant.ran c.loop-command.invariant.causes

pub returns-in-Err-clause-unfinished_causes : goal.returns-in-Err-clause-unfinished_causes
returns-in-Err-clause-unfinished_causes g c = record {
  stopped = runs_stop _ c.args.modules.now c.args.commands.now c.loop-command.command-index
      _ c.command-item.result _ _ _ _ _ _ (omega arith) c.command-item.is c.loop-command.invariant.as_many
      c.loop-command.invariant.engine c.loop-command.invariant.ran c.in-Err.ensures.unfinished;
  causes = run_causes_break (asked g.T.ResourceLimiter.growths g.H.HostBody.has g.K.CallHooks.hooks
      g.B.DeadlineBehaviour.behaves g.E.EpochSource.readings g.H.HostBody.steps) _ _ _ _ _ _
      c.law_failures_are_counted.ensures c.args.modules.now c.args.commands.now _ _
      c.loop-command.invariant.ran.heard _ _ _ _ c.loop-command.invariant.causes c.command-item.result _
      c.in-Err.ensures.unfinished;
}
