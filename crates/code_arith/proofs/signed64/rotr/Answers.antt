use Rattle.std.proofs.Common.{◌∙◌, ◌%◌, arith}
use Rattle.code_arith.proofs.RotationLemmas.{right}
use Rattle.code_arith.proofs.signed64.rotr.Goals as goal

pub returns : goal.returns
returns c = c.rotate_right.ensures ∙ right 64 c.args.x (c.args.y % 64) c.ranges.x.fits (omega arith)
