-- The text of each status and the exit status of the program: this project's own.
use Rattle.std.specs.Prelude.{ℕ, List, codes}
use Rattle.wasm_run.specs.StatusNames as session
use Rattle.replay_run.specs.declared.status.Status.{Status}
use Rattle.replay_run.specs.declared.status.Status.TheVariants.{Session, Hooked, BadTape, UnknownType, RoomSpent, NotSame}

abbrev pub status_text : Status → List ℕ
status_text (Session status) = session.status_text status
status_text Hooked = codes "Hooked"
status_text BadTape = codes "BadTape"
status_text UnknownType = codes "UnknownType"
status_text RoomSpent = codes "RoomSpent"
status_text NotSame = codes "NotSame"

-- as those of a session, where the cause is the same; 1 is left to faults of the system
abbrev pub exit_code : Status → ℕ
exit_code (Session status) = session.exit_code status
exit_code Hooked = 10
exit_code BadTape = 11
exit_code UnknownType = 12
exit_code RoomSpent = 13
exit_code NotSame = 14
