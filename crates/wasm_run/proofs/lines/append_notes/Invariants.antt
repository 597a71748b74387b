use Rattle.std.proofs.Common.{◌≡◌, ◌++◌, drop, map, string_bytes}
use Rattle.script_lines.specs.Lines.{note_lines}
use Rattle.wasm_run.proofs.lines.append_notes.Given as goal

abbrev pub invariant-loop-note : goal.invariant-loop-note
invariant-loop-note l =
    string_bytes l.initial.waiting ++ note_lines (map string_bytes l.notes)
    ≡ string_bytes l.waiting ++ note_lines (map string_bytes (drop l.note-index l.notes))
