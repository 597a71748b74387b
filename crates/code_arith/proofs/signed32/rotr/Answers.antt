use Rattle.std.proofs.Common.{◌∙◌, ◌%◌, arith}
use Rattle.code_arith.proofs.RotationLemmas.{right}
use Rattle.code_arith.proofs.signed32.rotr.Goals as goal

pub returns : goal.returns
returns c = c.rotate_right.ensures ∙ right 32 c.args.x (c.args.y % 32) c.ranges.x.fits (omega arith)
