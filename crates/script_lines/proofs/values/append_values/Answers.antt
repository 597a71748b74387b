use Rattle.std.proofs.Common.{◌∷◌}
use Rattle.std.specs.List.{flat_map}
use Rattle.std.specs.Prelude.{codes}
use Rattle.script_lines.specs.Lines.{value_text}
use Rattle.script_lines.proofs.Beginnings.{at_err, begun_first}
use Rattle.script_lines.proofs.values.append_values.Goals as goal

pub returns-in_err-append_piece-clause-short : goal.returns-in_err-append_piece-clause-short
returns-in_err-append_piece-clause-short c =
    at_err _ (begun_first (codes "ok values") (flat_map (λ val. 32 ∷ value_text val) c.args.vals.now) _ _
    c.in_err-append_piece.ensures.short)
