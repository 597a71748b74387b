use Rattle.script_lines.proofs.Beginnings.{at_err, begun_next}
use Rattle.script_lines.proofs.pieces.append_pieces.Goals as goal

pub returns-in_err-append_piece-2-clause-short : goal.returns-in_err-append_piece-2-clause-short
returns-in_err-append_piece-2-clause-short c =
    at_err _ (begun_next c.args.first.now c.args.second.now _ _ _ c.in_ok-append_piece.ensures.appended
    c.in_err-append_piece-2.ensures.short)
