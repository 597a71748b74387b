-- The store of a script before its first command, where the script is recorded or replayed. This project's own.
use Rattle.std.specs.Prelude.{◌≡◌, ℕ, Bool, true, false, [], Option, Some, None}
use Rattle.law_replay.specs.Tapes.{TapeParts}
use Rattle.spec_machine.specs.Machine.{Machine, numbers}
use Rattle.wasm_store.specs.Meters.{limited}
use Rattle.wasm_store.specs.Stores.{StoreParts}
use Rattle.script_commands.specs.declared.engine.ScriptEngine.{ScriptEngine}
use Rattle.script_commands.specs.declared.host_answers.HostAnswers.{HostAnswers}
use Rattle.script_commands.specs.declared.host_answers.LimiterAnswers.{LimiterAnswers}
use Rattle.script_data.specs.HostData.{limiter_by}
use Rattle.script_data.specs.declared.script_data.ScriptData.{ScriptData}
use Rattle.wasm_replay.specs.Kept.{kept}
use Rattle.wasm_replay.specs.ReplayCalls.{IsUnasked}
use Rattle.wasm_replay.specs.declared.recorded.Recorded.{Recorded}
use Rattle.wasm_replay.specs.declared.replayed.Replayed.{Replayed}
use Rattle.wasm_run.specs.Starts.{start_machine, start_data}
use Rattle.replay_run.specs.declared.stores.Most.{Most}

-- there is no hook and no deadline behaviour
pub record IsUnhooked (answers : HostAnswers) : Type 0 where
  pub hook : answers.hook ≡ None
  pub deadline : answers.deadline ≡ None

-- the room of the growths, and that of the readings
abbrev pub room : ℕ
room = 1000000

-- a store of a script before its first command, whatever its host keeps in it
pub record IsStart {T : Type 0} (engine : ScriptEngine) (answers : HostAnswers) (s : StoreParts T) : Type 0 where
  pub machine : s.machine ≡ start_machine engine answers
  pub turns : s.turns ≡ 0

-- of one that is recorded: its data are those of the script, and no answer was kept yet
pub record IsRecordedStart (engine : ScriptEngine) (answers : HostAnswers) (s : StoreParts (Recorded ScriptData)) :
    Type 0 where
  pub starts : IsStart engine answers s
  pub inner : s.host_data.inner ≡ start_data answers
  pub kept : s.host_data.kept ≡ kept [] room
  pub past : s.host_data.past ≡ false

-- of one that is replayed by a tape: nothing was asked of the tape yet
pub record IsReplayedStart (engine : ScriptEngine) (answers : HostAnswers) (tape : TapeParts) (s : StoreParts Replayed) :
    Type 0 where
  pub starts : IsStart engine answers s
  pub unasked : IsUnasked tape s

-- how many instances, memories and tables there may be: as the limiter says, or 10,000 each
abbrev pub most_by : LimiterAnswers → Most
most_by limiter = record { instances = limiter.instances; memories = limiter.memories; tables = limiter.tables }

abbrev pub most_of : Option LimiterAnswers → Most
most_of limiter = most_by (limiter_by limiter)

-- a machine whose limiter is asked, or not
abbrev pub limited_if : Bool → ℕ → ℕ → ℕ → Machine → Machine
limited_if false instances memories tables m = m
limited_if true instances memories tables m = limited m (numbers instances memories tables)
