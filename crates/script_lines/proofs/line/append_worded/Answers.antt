use Rattle.script_lines.specs.Lines.{word_of}
use Rattle.script_lines.proofs.Beginnings.{at_err, begun_next}
use Rattle.script_lines.proofs.line.append_worded.Goals as goal

pub returns-in_err-append_word-clause-short : goal.returns-in_err-append_word-clause-short
returns-in_err-append_word-clause-short c =
    at_err _ (begun_next c.args.piece.now (word_of c.args.word.now) _ _ _ c.in_ok-append_piece.ensures.appended
    c.in_err-append_word.ensures.short)
