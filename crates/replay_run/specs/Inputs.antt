-- What a whole input asks for: a script that is recorded, or a tape with the script that it tells of. This project's own.
use Rattle.std.specs.Prelude.{ℕ, ◌+◌, nat_le, nat_eq, List, [], ◌∷◌, length, take, drop, Bool, true, false, ◌||◌, is_some, if◌then◌else◌, Option, Some, None, Result, Ok, Err, codes}
use Rattle.wasm_types.specs.Signatures.{Signature}
use Rattle.wasm_syntax.specs.declared.module_fault.Place.{Place}
use Rattle.wasm_syntax.specs.declared.module_fault.Rule.{Rule}
use Rattle.script_json.specs.Fields.{◌>>=◌, field, field_or}
use Rattle.script_json.specs.Json.{json_of}
use Rattle.script_types.specs.Types.{type_list_of}
use Rattle.script_commands.specs.Scripts.{Spelling, NoJson, NoScript, Spells, spelling}
use Rattle.script_commands.specs.declared.host_answers.HostAnswers.{HostAnswers}
use Rattle.script_commands.specs.declared.script.Script.{Script}
use Rattle.law_replay.specs.Tapes.{TapeParts}
use Rattle.wasm_tape.specs.Read.{tape_in}
use Rattle.wasm_run.specs.ModuleFaults.{first_invalid}
use Rattle.wasm_run.specs.Sessions.{limit}
use Rattle.wasm_run.specs.declared.status.Status.TheVariants as session
use Rattle.replay_run.specs.Words.{way_of}
use Rattle.replay_run.specs.declared.status.Status.{Status}
use Rattle.replay_run.specs.declared.status.Status.TheVariants.{Session, Hooked, BadTape}
use Rattle.replay_run.specs.declared.way.Way.{Way}
use Rattle.replay_run.specs.declared.way.Way.TheVariants.{Record, Replay}

-- ---- a script

-- a script that can be recorded and replayed, with the types of its modules and commands
pub record Typed : Type 0 where
  pub script : Script
  pub types : List Signature

abbrev pub typed : Script → List Signature → Typed
typed script types = record { script = script; types = types }

abbrev pub with_types : List Signature → Result Script Status → Result Typed Status
with_types types (Ok script) = Ok (typed script types)
with_types types (Err status) = Err status

-- the types of the script that bytes spell
abbrev pub types_in : List ℕ → Option (List Signature)
types_in bytes = json_of bytes >>= (λ d. field_or [] type_list_of (field (codes "types") d))

-- it has no hook and no deadline behaviour, whose answers are on no tape, and none of its modules breaks a rule
abbrev pub is_hooked : HostAnswers → Bool
is_hooked answers = is_some answers.hook || is_some answers.deadline

abbrev pub checked_by : Script → Bool → Option (ℕ × (Rule × Place)) → Result Script Status
checked_by script true invalid = Err Hooked
checked_by script false (Some invalid) = Err (Session (session.InvalidModule invalid.0 invalid.1.0 invalid.1.1))
checked_by script false None = Ok script

abbrev pub checked : Script → Result Script Status
checked script = checked_by script (is_hooked script.answers) (first_invalid 0 script.modules)

abbrev pub typed_by : Spelling → Option (List Signature) → Result Typed Status
typed_by NoJson types = Err (Session session.BadJson)
typed_by NoScript types = Err (Session session.BadScript)
typed_by (Spells script) None = Err (Session session.BadScript)
typed_by (Spells script) (Some types) = with_types types (checked script)

-- the script that bytes spell, or why it can't be recorded or replayed
abbrev pub typed_in : List ℕ → Result Typed Status
typed_in bytes = typed_by (spelling bytes) (types_in bytes)

-- ---- a tape and a script

-- how many bytes stand before the first line feed, or all where there is none
abbrev pub line_length : List ℕ → ℕ
line_length [] = 0
line_length (byte ∷ bytes) = if nat_eq byte 10 then 0 else 1 + line_length bytes

-- the first line without its end, and what stands behind its end
abbrev pub first_line : List ℕ → List ℕ
first_line input = take (line_length input) input

abbrev pub behind_line : List ℕ → List ℕ
behind_line input = drop (line_length input + 1) input

-- the tape that a line spells over the types of a script
abbrev pub tape_of : List Signature → List ℕ → Option TapeParts
tape_of types line = json_of line >>= tape_in types

-- ---- what is asked for

-- nothing that can be done, which a status says; the record of a script; or the replay of a script by a tape
pub data Task : Type 0 where
  NoRun : Status → Task
  Recording : Typed → Task
  Replaying : Typed → TapeParts → Task

abbrev pub recording : Result Typed Status → Task
recording (Ok t) = Recording t
recording (Err status) = NoRun status

abbrev pub replaying_by : Typed → Option TapeParts → Task
replaying_by t None = NoRun BadTape
replaying_by t (Some tape) = Replaying t tape

abbrev pub replaying : Result Typed Status → List ℕ → Task
replaying (Ok t) line = replaying_by t (tape_of t.types line)
replaying (Err status) line = NoRun status

-- a record's input is a script; a replay's is a tape as its first line, and a script behind it
abbrev pub task_by : Way → List ℕ → Task
task_by Record input = recording (typed_in input)
task_by Replay input = replaying (typed_in (behind_line input)) (first_line input)

-- of an input of 2^24 bytes at most
abbrev pub task_in : Way → List ℕ → Task
task_in way input = if nat_le (length input) limit then task_by way input else NoRun (Session session.TooLong)

abbrev pub task_from : Option Way → List ℕ → Task
task_from None input = NoRun (Session session.BadWords)
task_from (Some way) input = task_in way input

-- what words and a whole input ask for
abbrev pub task_of : List (List ℕ) → List ℕ → Task
task_of words input = task_from (way_of words) input
