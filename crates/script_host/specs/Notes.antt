-- The notes that a step of a script's host takes. This project's own.
use Rattle.std.specs.Prelude.{ℕ, ◌-◌, ℤ, List, [], ◌∷◌, length, Option, Some, None, slice_get}
use Rattle.std.specs.Fmt.{signed_decimal}
use Rattle.std.specs.List.{flat_map}
use Rattle.wasm_values.specs.declared.values.Val.{Val}
use Rattle.wasm_values.specs.declared.values.Val.TheVariants as v
use Rattle.spec_machine.specs.declared.reply.Reply.{Reply}
use Rattle.script_commands.specs.declared.host_bodies.Action.{Action}
use Rattle.script_commands.specs.declared.host_bodies.Action.TheVariants as action
use Rattle.script_commands.specs.declared.notes.NotePart.{NotePart}
use Rattle.script_commands.specs.declared.notes.NotePart.TheVariants as part
use Rattle.script_lines.specs.Lines.{reply_text}

-- an integer as a signed decimal number, and nothing of any other argument
abbrev pub integer_text : Option Val → List ℕ
integer_text (Some (v.I32 n)) = signed_decimal n
integer_text (Some (v.I64 n)) = signed_decimal n
integer_text _ = []

-- the line of the newest reply without its end, and nothing where there is none
abbrev pub text_of : Option Reply → List ℕ
text_of None = []
text_of (Some reply) = reply_text reply

abbrev pub newest_text : List Reply → List ℕ
newest_text replies = text_of (slice_get replies (length replies - 1))

abbrev pub part_text : ℤ → List Val → List Reply → NotePart → List ℕ
part_text number arguments replies (part.Text text) = text
part_text number arguments replies (part.Arg place) = integer_text (slice_get arguments place)
part_text number arguments replies part.Data = signed_decimal number
part_text number arguments replies part.Last = newest_text replies

-- the text of a note, by the number of the host data and by what the step sees: its parts, joined
abbrev pub note_text : ℤ → List Val → List Reply → List NotePart → List ℕ
note_text number arguments replies parts = flat_map (part_text number arguments replies) parts

-- the notes up to the first other action, and the actions from that one on
module _ (text : List NotePart → List ℕ) where
  abbrev pub notes_before : List Action → List (List ℕ)
  notes_before (action.Note parts ∷ more) = text parts ∷ notes_before more
  notes_before _ = []

abbrev pub behind_notes : List Action → List Action
behind_notes (action.Note parts ∷ more) = behind_notes more
behind_notes actions = actions
