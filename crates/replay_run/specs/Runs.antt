-- What recording and replaying a script comes to. This project's own.
use Rattle.std.specs.Prelude.{ℕ, List, [], length, nat_lt}
use Rattle.spec_execution.specs.Askings.{Question, Answer}
use Rattle.spec_machine.specs.declared.reply.Reply.{Reply}
use Rattle.law_replay.specs.Tapes.{TapeParts}
use Rattle.wasm_call.specs.Outside.{Readings}
use Rattle.wasm_store.specs.Stores.{StoreParts}
use Rattle.script_commands.specs.declared.script.Script.{Script}
use Rattle.script_data.specs.HostData.{GrowsByScript}
use Rattle.script_data.specs.declared.script_data.ScriptData.{ScriptData}
use Rattle.wasm_replay.specs.Calls.{Records, Spends}
use Rattle.wasm_replay.specs.Recordings.{Actual, RecordMoves}
use Rattle.wasm_replay.specs.ReplayCalls.{RanReplayed}
use Rattle.wasm_replay.specs.declared.ends.ReplayEnd.{ReplayEnd}
use Rattle.wasm_replay.specs.declared.recorded.Recorded.{Recorded}
use Rattle.wasm_replay.specs.declared.replayed.Replayed.{Replayed}
use Rattle.wasm_run.specs.Starts.{start_host}
use Rattle.replay_run.specs.Starts.{room, IsRecordedStart, IsReplayedStart}
use Rattle.replay_run.specs.SessionSteps.{Steps, session_host}
use Rattle.replay_run.specs.declared.host.SessionHost.{SessionHost}

-- a script has so many bodies
abbrev pub bodies_of : Script → ℕ
bodies_of script = length script.bodies

-- how what is outside of a script that is recorded goes: its limiter gives the answers of its list, and its host steps the
-- bodies of its list
abbrev pub script_moves : {E : Type 0} → Readings E → ℕ → Actual ScriptData SessionHost E → Question → Answer →
    Actual ScriptData SessionHost E → Type 0
script_moves readings bodies =
    RecordMoves (λ s growth answer t. GrowsByScript s answer t) (λ h body. nat_lt body (length h.host.bodies)) readings
    (λ h s body place event view after say k t. Steps h s body place view after say k t) bodies

-- a source of epochs that goes by these readings, before and after
module _ {E : Type 0} (readings : Readings E) (epochs epochs_after : E) (script : Script) where
  -- all commands of the script were run, over its modules and with its host, and are recorded on this tape
  pub record HasRecorded (tape : TapeParts) (replies : List Reply) : Type 0 where
    pub old : StoreParts (Recorded ScriptData)
    pub new : StoreParts (Recorded ScriptData)
    pub host : SessionHost
    pub begins : IsRecordedStart script.engine script.answers old
    pub records :
        Records (script_moves readings (bodies_of script)) (bodies_of script) script.modules script.commands room tape
        old (session_host (start_host script.bodies)) epochs [] new host epochs_after replies

  -- or they were run, and more was asked of the limiter or of the source of epochs than there is room for
  pub record HasSpent : Type 0 where
    pub old : StoreParts (Recorded ScriptData)
    pub new : StoreParts (Recorded ScriptData)
    pub host : SessionHost
    pub replies : List Reply
    pub begins : IsRecordedStart script.engine script.answers old
    pub spends :
        Spends (script_moves readings (bodies_of script)) (bodies_of script) script.modules script.commands room
        old (session_host (start_host script.bodies)) epochs [] new host epochs_after replies

-- all commands of the script were run over its modules by this tape alone, and the replay ended so
pub record HasReplayed (script : Script) (tape : TapeParts) (replies : List Reply) (ended : ReplayEnd) : Type 0 where
  pub old : StoreParts Replayed
  pub new : StoreParts Replayed
  pub begins : IsReplayedStart script.engine script.answers tape old
  pub ran : RanReplayed (bodies_of script) script.modules script.commands tape old [] new replies ended
