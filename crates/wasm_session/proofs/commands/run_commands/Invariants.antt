use Rattle.std.proofs.Common.{◌≡◌, ◌+◌, ℕ, Some, length, take}
use Rattle.std.specs.Prelude.{slice_get}
use Rattle.wasm_values.specs.declared.refusals.Refusal.{Refusal}
use Rattle.spec_machine.specs.declared.reply.Reply.TheVariants.{Refused}
use Rattle.law_causes.specs.Tallies.{RefusedByCounts}
use Rattle.wasm_call.specs.Outside.{asked, surrounded, outside}
use Rattle.wasm_session.specs.Causes.{RefusedIn}
use Rattle.wasm_session.specs.Sessions.{Runs}
use Rattle.wasm_session.proofs.commands.run_commands.Given as goal

abbrev pub invariant-loop-command : goal.invariant-loop-command
invariant-loop-command g l = record {
  ran : Runs (asked g.T.ResourceLimiter.growths g.H.HostBody.has g.K.CallHooks.hooks g.B.DeadlineBehaviour.behaves
      g.E.EpochSource.readings g.H.HostBody.steps) l.modules
      (take l.command-index l.commands) (surrounded l.fn.store l.fn.host l.fn.epochs) l.fn.replies
      (surrounded l.store l.host l.epochs) l.replies;
  as_many : length l.replies ≡ length l.fn.replies + l.command-index;
  ready : g.H.HostBody.ready l.host;
  engine : l.store.machine.engine ≡ l.fn.store.machine.engine;
  causes : (n : ℕ) (why : Refusal) → slice_get l.replies (length l.fn.replies + n) ≡ Some (Refused why) →
      RefusedIn (asked g.T.ResourceLimiter.growths g.H.HostBody.has g.K.CallHooks.hooks g.B.DeadlineBehaviour.behaves
      g.E.EpochSource.readings g.H.HostBody.steps)
      (λ old new reason w. RefusedByCounts g.T.ResourceLimiter.denials g.T.ResourceLimiter.limiter_faults
      g.T.HostData.hook_faults g.T.HostData.behaviour_faults g.E.EpochSource.epoch_faults g.H.HostBody.host_faults
      (outside old) (outside new) reason w)
      l.modules l.commands (surrounded l.fn.store l.fn.host l.fn.epochs) l.fn.replies n why ran.heard
      (surrounded l.store l.host l.epochs);
}
