-- What recording commands comes to. This project's own.
use Rattle.std.specs.Prelude.{◌≡◌, ℕ, ◌+◌, ◌<◌, ◌≤◌, Bool, true, false, ◌||◌, List, [], ◌++◌, length, Some, Result}
use Rattle.wasm_types.specs.Each.{Each}
use Rattle.wasm_syntax.specs.declared.declarations.ModuleDecl.{ModuleDecl}
use Rattle.wasm_meter.specs.declared.faults.EpochFailed.{EpochFailed}
use Rattle.wasm_meter.specs.declared.faults.LimiterFailed.{LimiterFailed}
use Rattle.spec_machine.specs.declared.command.Command.{Command}
use Rattle.spec_machine.specs.declared.reply.Reply.{Reply}
use Rattle.spec_execution.specs.Askings.{Question, Answer, Asking, answers_in, Outside, Relations, Moves, Chain}
use Rattle.spec_execution.specs.Runs.{run, IsStop}
use Rattle.law_code.specs.Answers.{IsTypedAnswer}
use Rattle.law_store.specs.Rows.{RunsNoCode}
use Rattle.law_replay.specs.Replays.{IsOff}
use Rattle.law_replay.specs.Tapes.{TapeParts, tape_of, Holds, IsTapable}
use Rattle.law_replay.specs.declared.step.TapedStep.{TapedStep}
use Rattle.wasm_store.specs.Stores.{StoreParts}
use Rattle.wasm_call.specs.Outside.{turns_heard}
use Rattle.wasm_call.specs.Runs.{state_of}
use Rattle.wasm_replay.specs.Kept.{KeptParts, kept}
use Rattle.wasm_replay.specs.Recordings.{Lent, Actual}
use Rattle.wasm_replay.specs.declared.recorded.Recorded.{Recorded}
use Rattle.wasm_replay.specs.declared.recording.RecordFault.{RecordFault}
use Rattle.wasm_replay.specs.declared.recording.RecordFault.TheVariants as fault

abbrev pub tape_parts : List TapedStep → List (Result ℕ EpochFailed) → List (Result Bool LimiterFailed) → TapeParts
tape_parts steps readings growths = record { steps = steps; readings = readings; growths = growths }

-- by answers in which the types are types
abbrev pub typed : {W : Type 0} → (W → Question → Answer → W → Type 0) → W → Question → Answer → W → Type 0
typed moves old q a new = IsTypedAnswer a × moves old q a new

abbrev pub typed_moves : {T H E : Type 0} → Relations T H E → Outside T H E → Question → Answer → Outside T H E → Type 0
typed_moves r = typed (Moves r)

-- what is outside as a recording begins, with room for so many readings
abbrev pub begun : {T H E : Type 0} → StoreParts (Recorded T) → H → E → ℕ → Actual T H E
begun store host source room = record {
  host_data = store.host_data;
  host = host;
  epochs = record { source = source; kept = kept [] room; past = false };
}

-- a store whose growths were moved out: no room is left
abbrev pub moved_out : {T : Type 0} → StoreParts (Recorded T) → StoreParts (Recorded T)
moved_out s = record s { host_data = record s.host_data { kept = kept [] 0 } }

-- what is outside went by what was heard from where it was to where it is, with all growths that were kept, which are then
-- moved out
pub record Went {T H E : Type 0} (moves : Actual T H E → Question → Answer → Actual T H E → Type 0) (room : ℕ)
    (old : StoreParts (Recorded T)) (host : H) (source : E) (heard : List Asking) (new : StoreParts (Recorded T))
    (host' : H) (source' : E) : Type 0 where
  pub readings : KeptParts (Result ℕ EpochFailed)
  pub past : Bool
  pub before : StoreParts (Recorded T)
  pub moved : new ≡ moved_out before
  pub chained :
      Chain (typed moves) (begun old host source room) heard
      (record {
        host_data = before.host_data;
        host = host';
        epochs = record { source = source'; kept = readings; past = past };
      })

-- a growth or a reading was asked past its room
abbrev pub went_past : {T H E : Type 0} {moves : Actual T H E → Question → Answer → Actual T H E → Type 0} {room : ℕ}
    {old : StoreParts (Recorded T)} {host : H} {source : E} {heard : List Asking} {new : StoreParts (Recorded T)}
    {host' : H} {source' : E} → Went moves room old host source heard new host' source' → Bool
went_past w = w.before.host_data.past || w.past

-- commands were recorded, and each has its reply: by what was heard the store and the replies are the machine's, and all of
-- it can stand on a tape
pub record RanRecorded {T H E : Type 0} (moves : Actual T H E → Question → Answer → Actual T H E → Type 0) (bodies : ℕ)
    (modules : List ModuleDecl) (commands : List Command) (room : ℕ) (old : StoreParts (Recorded T)) (host : H)
    (source : E) (replies : List Reply) (new : StoreParts (Recorded T)) (host' : H) (source' : E) (all : List Reply) :
    Type 0 where
  pub heard : List Asking
  pub went : Went moves room old host source heard new host' source'
  pub tapable : Each heard (λ (asking : Asking). IsTapable bodies asking.0 asking.1)
  pub ends : (prior : List Asking) (rest : List Answer) →
      run modules (state_of old replies prior (answers_in heard ++ rest)) commands
      ≡ Some (state_of new all (prior ++ heard) rest)

-- and a tape holds what was heard: nothing was asked past its room
pub record Records {T H E : Type 0} (moves : Actual T H E → Question → Answer → Actual T H E → Type 0) (bodies : ℕ)
    (modules : List ModuleDecl) (commands : List Command) (room : ℕ) (tape : TapeParts) (old : StoreParts (Recorded T))
    (host : H) (source : E) (replies : List Reply) (new : StoreParts (Recorded T)) (host' : H) (source' : E)
    (all : List Reply) : Type 0 where
  pub ran : RanRecorded moves bodies modules commands room old host source replies new host' source' all
  pub within : went_past ran.went ≡ false
  pub holds : Holds tape ran.heard

-- or something was asked past its room
pub record Spends {T H E : Type 0} (moves : Actual T H E → Question → Answer → Actual T H E → Type 0) (bodies : ℕ)
    (modules : List ModuleDecl) (commands : List Command) (room : ℕ) (old : StoreParts (Recorded T)) (host : H)
    (source : E) (replies : List Reply) (new : StoreParts (Recorded T)) (host' : H) (source' : E) (all : List Reply) :
    Type 0 where
  pub ran : RanRecorded moves bodies modules commands room old host source replies new host' source' all
  pub past : went_past ran.went ≡ true

-- or memory ran out in a command after so many turns: the first commands have their replies, and by what was heard the store
-- and the replies are those of a stop of the machine. Where no command runs code each of these turns was a question
pub record StopsRecorded {T H E : Type 0} (moves : Actual T H E → Question → Answer → Actual T H E → Type 0)
    (modules : List ModuleDecl) (commands : List Command) (turns room : ℕ) (old : StoreParts (Recorded T)) (host : H)
    (source : E) (replies : List Reply) (new : StoreParts (Recorded T)) (host' : H) (source' : E) (all : List Reply) :
    Type 0 where
  pub finished : ℕ
  pub unfinished : finished < length commands
  pub heard : List Asking
  pub went : Went moves room old host source heard new host' source'
  pub stop : (prior : List Asking) (rest : List Answer) →
      IsStop modules (state_of old replies prior (answers_in heard ++ rest)) commands finished turns
      (state_of new all (prior ++ heard) rest)
  pub questions : Each commands RunsNoCode → turns ≤ turns_heard heard
  pub answered : length all ≡ length replies + finished
  pub told : new.turns ≡ turns

-- what is said of the turns of an unfinished command, where that is why there is no tape
abbrev pub IfUnfinished : RecordFault → (ℕ → Type 0) → Type 0
IfUnfinished (fault.Unfinished unfinished) Says = Says unfinished.turns
IfUnfinished why Says = Unit {0}

-- commands were recorded, and the growths are not yet moved out, with the steps and the readings that were kept
pub record RanLent {T H E : Type 0} (moves : Actual T H E → Question → Answer → Actual T H E → Type 0) (bodies : ℕ)
    (modules : List ModuleDecl) (commands : List Command) (room : ℕ) (old : StoreParts (Recorded T)) (host : H)
    (source : E) (replies : List Reply) (new : StoreParts (Recorded T)) (host' : H) (source' : E) (all : List Reply)
    (steps : List TapedStep) (readings : List (Result ℕ EpochFailed)) (past : Bool) : Type 0 where
  pub ran : RanRecorded moves bodies modules commands room old host source replies (moved_out new) host' source' all
  pub past_is : went_past ran.went ≡ (new.host_data.past || past)
  pub tape_is : (new.host_data.past || past) ≡ false →
      tape_parts steps readings new.host_data.kept.items ≡ tape_of ran.heard

-- a store that can be recorded: nothing was kept yet or asked past the room, and no hook and no deadline behaviour is set
pub record IsFresh {T : Type 0} (s : StoreParts (Recorded T)) : Type 0 where
  pub kept : s.host_data.kept.items ≡ []
  pub past : s.host_data.past ≡ false
  pub off : IsOff s.machine
