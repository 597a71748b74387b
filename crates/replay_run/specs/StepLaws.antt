-- The laws of a script's host whose run is recorded.
use Rattle.std.proofs.Common.{refl}
use Rattle.std.specs.Prelude.{ℕ, ◌≤◌, Result, Ok}
use Rattle.wasm_types.specs.declared.faults.OutOfMemory.{OutOfMemory}
use Rattle.wasm_meter.specs.Counting.{Rose, NoneFell}
use Rattle.wasm_meter.specs.Unhooked.{nothing_fell}
use Rattle.spec_execution.specs.Askings.{View}
use Rattle.spec_execution.specs.declared.answer.Answer.{Answer}
use Rattle.spec_execution.specs.declared.answer.Answer.TheVariants.{Fail}
use Rattle.script_data.specs.declared.script_data.ScriptData.{ScriptData}
use Rattle.script_host.specs.StepLaws as script
use Rattle.script_host.specs.ScriptSteps.{Steps as ScriptSteps}
use Rattle.wasm_replay.specs.declared.recorded.Recorded.{Recorded}
use Rattle.replay_run.specs.SessionSteps.{Steps}
use Rattle.replay_run.specs.declared.host.SessionHost.{SessionHost}

-- a step leaves no count lower
pub steps_keep :
    (h k : SessionHost) (s t : Recorded ScriptData) (body place after : ℕ) (view : View)
    (say : Result Answer OutOfMemory) → Steps h s body place view after say k t
    → (h.host.faults ≤ k.host.faults)
    × NoneFell {T = Recorded ScriptData} (λ x. x.inner.answers.denials) (λ x. x.faults) (λ x. x.inner.answers.hook_faults)
    (λ x. x.inner.answers.behaviour_faults) s t
steps_keep h k s t body place after view say g = (
  g.never_falls,
  nothing_fell {T = Recorded ScriptData} (λ x. x.inner.answers.denials) (λ x. x.faults)
      (λ x. x.inner.answers.hook_faults) (λ x. x.inner.answers.behaviour_faults) s t g.data_is,
)

-- the same step as one of the script's host over the data within
as_script :
    (h k : SessionHost) (s t : Recorded ScriptData) (body place after : ℕ) (view : View)
    (say : Result Answer OutOfMemory) → Steps h s body place view after say k t
    → ScriptSteps h.host s.inner body place view after say k.host s.inner
as_script h k s t body place after view say g =
    record { goes = g.goes; data_is = refl; never_falls = g.never_falls }

-- the count of faults rises where a step fails
pub steps_fail :
    (h k : SessionHost) (s t : Recorded ScriptData) (body place after : ℕ) (view : View)
    → Steps h s body place view after (Ok Fail) k t → Rose h.host.faults k.host.faults
steps_fail h k s t body place after view g =
    script.steps_fail h.host k.host s.inner s.inner body place after view
    (as_script h k s t body place after view (Ok Fail) g)
