use Rattle.std.specs.Prelude.{codes}
use Rattle.script_lines.specs.Lines.{reply_text}
use Rattle.script_lines.proofs.Beginnings.{at_err, begun_first, begun_next}
use Rattle.script_lines.proofs.line.append_line.Goals as goal

pub returns-in_err-append_reply-clause-short : goal.returns-in_err-append_reply-clause-short
returns-in_err-append_reply-clause-short c =
    at_err _ (begun_first (reply_text c.args.reply.now) (codes "\n") _ _ c.in_err-append_reply.ensures.short)

pub returns-in_err-append_piece-clause-short : goal.returns-in_err-append_piece-clause-short
returns-in_err-append_piece-clause-short c =
    at_err _ (begun_next (reply_text c.args.reply.now) (codes "\n") _ _ _ c.in_ok-append_reply.ensures.appended
    c.in_err-append_piece.ensures.short)
