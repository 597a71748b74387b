use Rattle.std.proofs.Common.{◌∙◌, ◌%◌, arith}
use Rattle.code_arith.proofs.RotationLemmas.{left}
use Rattle.code_arith.proofs.signed64.rotl.Goals as goal

pub returns : goal.returns
returns c = c.rotate_left.ensures ∙ left 64 c.args.x (c.args.y % 64) c.ranges.x.fits (omega arith)
