use Rattle.std.specs.Prelude.{codes}
use Rattle.script_lines.specs.Lines.{value_text}
use Rattle.script_lines.proofs.Beginnings.{at_err, begun_next}
use Rattle.script_lines.proofs.values.append_item.Goals as goal

pub returns-in_err-append_value-clause-short : goal.returns-in_err-append_value-clause-short
returns-in_err-append_value-clause-short c =
    at_err _ (begun_next (codes " ") (value_text c.args.val) _ _ _ c.in_ok-append_piece.ensures.appended
    c.in_err-append_value.ensures.short)
