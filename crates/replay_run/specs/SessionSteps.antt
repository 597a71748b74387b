-- The host of a script that is recorded: its steps are those of the script's host. This project's own.
use Rattle.std.specs.Prelude.{◌≡◌, ℕ, ◌≤◌, List, Result}
use Rattle.wasm_types.specs.declared.faults.OutOfMemory.{OutOfMemory}
use Rattle.spec_execution.specs.Askings.{View}
use Rattle.spec_execution.specs.declared.answer.Answer.{Answer}
use Rattle.script_data.specs.declared.script_data.ScriptData.{ScriptData}
use Rattle.script_host.specs.ScriptSteps.{HostParts, Says}
use Rattle.wasm_replay.specs.declared.recorded.Recorded.{Recorded}
use Rattle.replay_run.specs.declared.host.SessionHost.{SessionHost}

abbrev pub session_host : HostParts → SessionHost
session_host h = record { host = h }

-- a step says what one of the script's host does over the data within, and leaves all data
pub record Steps (h : SessionHost) (s : Recorded ScriptData) (body place : ℕ) (view : View) (after : ℕ)
    (say : Result Answer OutOfMemory) (k : SessionHost) (t : Recorded ScriptData) : Type 0 where
  pub goes : Says h.host s.inner body place view after say k.host
  pub data_is : t ≡ s
  pub never_falls : h.host.faults ≤ k.host.faults
