-- What each status says of what was asked for, of the source of epochs and of the sink. This project's own.
use Rattle.std.specs.Prelude.{◌≡◌, ◌⊎◌, ℕ, List, Option, Some, None}
use Rattle.serde_json.specs.Data.{Data}
use Rattle.spec_machine.specs.declared.reply.Reply.{Reply}
use Rattle.wasm_types.specs.Signatures.{Signature}
use Rattle.law_replay.specs.Tapes.{TapeParts}
use Rattle.wasm_call.specs.Outside.{Readings}
use Rattle.wasm_streams.specs.Streams.{after, Fronts}
use Rattle.wasm_tape.specs.Read.{tape_in}
use Rattle.wasm_tape.specs.Written.{tape_data}
use Rattle.script_commands.specs.declared.script.Script.{Script}
use Rattle.wasm_replay.specs.declared.ends.ReplayEnd.{ReplayEnd}
use Rattle.wasm_replay.specs.declared.ends.ReplayEnd.TheVariants as end
use Rattle.wasm_run.specs.declared.status.Status.TheVariants as session
use Rattle.replay_run.specs.Inputs.{Typed, Task, NoRun, Recording, Replaying}
use Rattle.replay_run.specs.Lines.{record_text, replay_text}
use Rattle.replay_run.specs.Runs.{HasRecorded, HasSpent, HasReplayed}
use Rattle.replay_run.specs.declared.status.Status.{Status}
use Rattle.replay_run.specs.declared.status.Status.TheVariants.{Session, Hooked, BadTape, UnknownType, RoomSpent, NotSame}

-- this is written of a tape over some types, and it is read again as that tape
pub record IsWritten (types : List Signature) (tape : TapeParts) (value : Data) : Type 0 where
  pub written : tape_data types tape ≡ Some value
  pub comes_back : tape_in types value ≡ Some tape

-- the text of a replay: the script was replayed by the tape, and these are its lines and how it ended
pub record ReplaysAs (script : Script) (tape : TapeParts) (ended : ReplayEnd) (text : List ℕ) : Type 0 where
  pub replies : List Reply
  pub ran : HasReplayed script tape replies ended
  pub text_is : text ≡ replay_text replies ended

-- a replay was asked for, and came to this text and this end
pub record ReplaysFor (task : Task) (text : List ℕ) (ended : ReplayEnd) : Type 0 where
  pub typed : Typed
  pub tape : TapeParts
  pub asks : task ≡ Replaying typed tape
  pub replays : ReplaysAs typed.script tape ended text

-- the status of a replay: whether it ended as it was recorded
abbrev pub status_of : ReplayEnd → Status
status_of end.Same = Session session.Done
status_of ended = NotSame

-- nothing that can be done was asked for, as a status says, or memory ran out
abbrev pub IsRefusal : Task → Status → Type 0
IsRefusal task (Session session.OutOfMemory) = Unit {0}
IsRefusal task (Session session.BadJson) = task ≡ NoRun (Session session.BadJson)
IsRefusal task (Session session.BadScript) = task ≡ NoRun (Session session.BadScript)
IsRefusal task (Session (session.InvalidModule n rule place)) =
    task ≡ NoRun (Session (session.InvalidModule n rule place))
IsRefusal task Hooked = task ≡ NoRun Hooked
IsRefusal task BadTape = task ≡ NoRun BadTape
IsRefusal task status = ⊥

-- a source of epochs that goes by these readings, before and after
module _ {E : Type 0} (readings : Readings E) (epochs epochs_after : E) where
  -- the text of a record: the script was recorded, and these are its tape and its lines
  pub record RecordsAs (t : Typed) (text : List ℕ) : Type 0 where
    pub tape : TapeParts
    pub replies : List Reply
    pub ran : HasRecorded readings epochs epochs_after t.script tape replies
    pub value : Data
    pub value_is : IsWritten t.types tape value
    pub text_is : text ≡ record_text value replies

  -- the script was recorded, and a function type on its tape is none of its types
  pub record HasNoNumber (t : Typed) : Type 0 where
    pub tape : TapeParts
    pub replies : List Reply
    pub ran : HasRecorded readings epochs epochs_after t.script tape replies
    pub unwritten : tape_data t.types tape ≡ None

  -- why there is no text of a record
  abbrev pub NotRecorded : Typed → Status → Type 0
  NotRecorded t (Session session.OutOfMemory) = Unit {0}
  NotRecorded t UnknownType = HasNoNumber t
  NotRecorded t RoomSpent = HasSpent readings epochs epochs_after t.script
  NotRecorded t status = ⊥

  -- a record was asked for, and came to this text
  pub record Recorded (task : Task) (text : List ℕ) (status : Status) : Type 0 where
    pub typed : Typed
    pub asks : task ≡ Recording typed
    pub records : RecordsAs typed text
    pub status_is : status ≡ Session session.Done

  -- a replay was asked for, and came to this text and to the status of how it ended; no epoch was read
  pub record Replayed (task : Task) (text : List ℕ) (status : Status) : Type 0 where
    pub ended : ReplayEnd
    pub replays : ReplaysFor task text ended
    pub status_is : status ≡ status_of ended
    pub unread : epochs_after ≡ epochs

  -- what was asked for came to a text, behind which this status is due
  abbrev pub Comes : Task → List ℕ → Status → Type 0
  Comes task text status = Recorded task text status ⊎ Replayed task text status

  -- a record was asked for, and there is no text, for this cause
  pub record Unrecorded (task : Task) (status : Status) : Type 0 where
    pub typed : Typed
    pub asks : task ≡ Recording typed
    pub cause : NotRecorded typed status

  -- nothing that can be done was asked for, as this status says, and no epoch was read
  pub record Refused (task : Task) (status : Status) : Type 0 where
    pub asks : task ≡ NoRun status
    pub unread : epochs_after ≡ epochs

  -- there is no text, for the cause that a status tells
  abbrev pub Fails : Task → Status → Type 0
  Fails task (Session session.Done) = ⊥
  Fails task (Session session.ReadFault) = epochs_after ≡ epochs
  Fails task (Session session.OutOfMemory) = Unit {0}
  Fails task (Session session.WriteFault) = ⊥
  Fails task (Session status) = Refused task (Session status)
  Fails task Hooked = Refused task Hooked
  Fails task BadTape = Refused task BadTape
  Fails task UnknownType = Unrecorded task UnknownType
  Fails task RoomSpent = Unrecorded task RoomSpent
  Fails task NotSame = ⊥

  -- and the sink, before and after
  module _ (old new : Option (List ℕ)) where
    -- the text that was come to was written, and this status is due
    pub record Written (task : Task) (status : Status) : Type 0 where
      pub text : List ℕ
      pub comes : Comes task text status
      pub wrote : new ≡ after text old

    -- a front of it was
    pub record WrittenInPart (task : Task) : Type 0 where
      pub text : List ℕ
      pub status : Status
      pub comes : Comes task text status
      pub front : Fronts text old new

    -- nothing was
    pub record Unwritten (task : Task) (status : Status) : Type 0 where
      pub fails : Fails task status
      pub sink : new ≡ old

    -- what a status says of what was asked for, of the source of epochs, and of the sink
    abbrev pub Says : Task → Status → Type 0
    Says task (Session session.Done) = Written task (Session session.Done)
    Says task NotSame = Written task NotSame
    Says task (Session session.WriteFault) = WrittenInPart task
    Says task status = Unwritten task status

-- nothing was written, and the sink was not touched
abbrev pub IsQuiet : Status → Type 0
IsQuiet (Session session.Done) = ⊥
IsQuiet (Session session.WriteFault) = ⊥
IsQuiet NotSame = ⊥
IsQuiet status = Unit {0}

-- all of a text was written
abbrev pub IsTold : Status → Type 0
IsTold (Session session.Done) = Unit {0}
IsTold NotSame = Unit {0}
IsTold status = ⊥

-- the statuses that come only after the source gave its end
abbrev pub IsOfWhole : Status → Type 0
IsOfWhole (Session session.BadWords) = ⊥
IsOfWhole (Session session.ReadFault) = ⊥
IsOfWhole (Session session.TooLong) = ⊥
IsOfWhole (Session session.OutOfMemory) = ⊥
IsOfWhole status = Unit {0}

-- the statuses that come after an input within the limit was read
abbrev pub IsAfterInput : Status → Type 0
IsAfterInput (Session session.BadWords) = ⊥
IsAfterInput (Session session.ReadFault) = ⊥
IsAfterInput (Session session.TooLong) = ⊥
IsAfterInput status = Unit {0}
