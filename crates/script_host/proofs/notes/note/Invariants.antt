use Rattle.std.proofs.Common.{◌≡◌, ◌++◌, drop, string_bytes}
use Rattle.script_host.specs.Notes.{note_text}
use Rattle.script_host.proofs.notes.note.Given as goal

abbrev pub invariant-loop-part : goal.invariant-loop-part
invariant-loop-part l =
    note_text l.sight.number l.sight.arguments.now l.sight.replies.now l.parts
    ≡ string_bytes l.text ++ note_text l.sight.number l.sight.arguments.now l.sight.replies.now (drop l.part-index l.parts)
