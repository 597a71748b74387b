-- What is written: the line of a tape, the lines of replies, and the line of how a replay ended. This project's own.
use Rattle.std.specs.Prelude.{ℕ, List, ◌++◌, codes, decimal}
use Rattle.serde_json.specs.Data.{Data}
use Rattle.serde_json.specs.Written.{compact_text}
use Rattle.spec_execution.specs.declared.answer.Event.{Event}
use Rattle.spec_execution.specs.declared.answer.Event.TheVariants as event
use Rattle.spec_machine.specs.declared.reply.Reply.{Reply}
use Rattle.script_lines.specs.Lines.{lines_of}
use Rattle.wasm_replay.specs.declared.ends.Asked.{Asked}
use Rattle.wasm_replay.specs.declared.ends.Kind.{Kind}
use Rattle.wasm_replay.specs.declared.ends.Kind.TheVariants as kind
use Rattle.wasm_replay.specs.declared.ends.ReplayEnd.{ReplayEnd}
use Rattle.wasm_replay.specs.declared.ends.ReplayEnd.TheVariants as end

-- the JSON text of a tape without a space, as one line
abbrev pub tape_line : Data → List ℕ
tape_line tape = compact_text tape ++ codes "\n"

-- a record: the tape, and a line for each reply
abbrev pub record_text : Data → List Reply → List ℕ
record_text tape replies = tape_line tape ++ lines_of replies

-- why a body is stepped, as on a tape
abbrev pub event_text : Event → List ℕ
event_text event.Start = codes "start"
event_text event.Replied = codes "replied"

-- a step that is asked for: the body's number, its state, and why it is stepped
abbrev pub asked_text : Asked → List ℕ
asked_text step = decimal step.body ++ codes " " ++ decimal step.state ++ codes " " ++ event_text step.event

-- the list of a tape, by its key
abbrev pub kind_text : Kind → List ℕ
kind_text kind.Steps = codes "steps"
kind_text kind.Readings = codes "readings"
kind_text kind.Growths = codes "growths"

-- how a replay ended; of the first step that differs its place, the step that was recorded, and the one that was asked
abbrev pub end_text : ReplayEnd → List ℕ
end_text end.Same = codes "Same"
end_text (end.Differs at recorded asked) =
    codes "Differs " ++ decimal at ++ codes " recorded " ++ asked_text recorded ++ codes " asked " ++ asked_text asked
end_text (end.Ended kind) = codes "Ended " ++ kind_text kind
end_text (end.Left kind) = codes "Left " ++ kind_text kind

abbrev pub end_line : ReplayEnd → List ℕ
end_line ended = codes "replay " ++ end_text ended ++ codes "\n"

-- a replay: a line for each reply, and how it ended
abbrev pub replay_text : List Reply → ReplayEnd → List ℕ
replay_text replies ended = lines_of replies ++ end_line ended
