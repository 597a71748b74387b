use Rattle.code_hosts.specs.Asked.{asked}
use Rattle.wasm_session.proofs.CauseLemmas.{command_causes}
use Rattle.wasm_session.proofs.ConfinedLemmas.{step_confined, break_confined}
use Rattle.wasm_session.proofs.commands.run_command.Goals as goal

pub returns-clause-confined : goal.returns-clause-confined
returns-clause-confined g c = step_confined _ c.args.modules.now _ _ _ _ c.args.command.now (λ e. e.turns) _ c.answer.ensures.done

pub returns-clause-unfinished_confined : goal.returns-clause-unfinished_confined
returns-clause-unfinished_confined g c =
    break_confined _ c.args.modules.now _ _ _ _ c.args.command.now (λ e. e.turns) _ c.answer.ensures.unfinished

pub returns-clause-causes : goal.returns-clause-causes
returns-clause-causes g c =
    command_causes (asked g.T.ResourceLimiter.growths g.H.HostBody.has g.K.CallHooks.hooks g.B.DeadlineBehaviour.behaves
    g.E.EpochSource.readings g.H.HostBody.steps) _ _ _ _ _ _ c.law_failures_are_counted.ensures c.args.modules.now
    c.args.command.now _ _ _ _ _ c.answer.ensures.done
