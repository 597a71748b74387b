-- The parts of a record's text, and why there are none. This project's own.
use Rattle.std.specs.Prelude.{◌≡◌, ℕ, List, None}
use Rattle.serde_json.specs.Data.{Data}
use Rattle.wasm_types.specs.Signatures.{Signature}
use Rattle.law_replay.specs.Tapes.{TapeParts}
use Rattle.wasm_call.specs.Outside.{Readings}
use Rattle.wasm_tape.specs.Written.{tape_data}
use Rattle.script_commands.specs.declared.script.Script.{Script}
use Rattle.wasm_run.specs.declared.status.Status.TheVariants as session
use Rattle.replay_run.specs.Lines.{tape_line}
use Rattle.replay_run.specs.Runs.{HasSpent}
use Rattle.replay_run.specs.Statuses.{IsWritten}
use Rattle.replay_run.specs.declared.status.Status.{Status}
use Rattle.replay_run.specs.declared.status.Status.TheVariants.{Session, UnknownType, RoomSpent}

-- the line of what is written of a tape
pub record IsTapeLine (types : List Signature) (tape : TapeParts) (line : List ℕ) : Type 0 where
  pub value : Data
  pub value_is : IsWritten types tape value
  pub line_is : line ≡ tape_line value

-- why there is none
abbrev pub IsLineFault : List Signature → TapeParts → Status → Type 0
IsLineFault types tape UnknownType = tape_data types tape ≡ None
IsLineFault types tape (Session session.OutOfMemory) = Unit {0}
IsLineFault types tape status = ⊥

-- why there is no tape
abbrev pub IsRecordFault : {E : Type 0} → Readings E → E → E → Script → Status → Type 0
IsRecordFault readings epochs epochs_after script RoomSpent = HasSpent readings epochs epochs_after script
IsRecordFault readings epochs epochs_after script (Session session.OutOfMemory) = Unit {0}
IsRecordFault readings epochs epochs_after script status = ⊥
