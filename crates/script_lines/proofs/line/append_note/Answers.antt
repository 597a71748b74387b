use Rattle.std.proofs.Common.{◌++◌}
use Rattle.std.specs.Prelude.{codes}
use Rattle.script_lines.specs.Lines.{word_of}
use Rattle.script_lines.proofs.Beginnings.{at_err, begun_first, begun_next}
use Rattle.script_lines.proofs.line.append_note.Goals as goal

pub returns-in_err-append_worded-clause-short : goal.returns-in_err-append_worded-clause-short
returns-in_err-append_worded-clause-short c =
    at_err _ (begun_first (codes "note" ++ word_of c.args.note.now) (codes "\n") _ _
    c.in_err-append_worded.ensures.short)

pub returns-in_err-append_piece-clause-short : goal.returns-in_err-append_piece-clause-short
returns-in_err-append_piece-clause-short c =
    at_err _ (begun_next (codes "note" ++ word_of c.args.note.now) (codes "\n") _ _ _
    c.in_ok-append_worded.ensures.appended c.in_err-append_piece.ensures.short)
