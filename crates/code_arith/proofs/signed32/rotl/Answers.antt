use Rattle.std.proofs.Common.{◌∙◌, ◌%◌, arith}
use Rattle.code_arith.proofs.RotationLemmas.{left}
use Rattle.code_arith.proofs.signed32.rotl.Goals as goal

pub returns : goal.returns
returns c = c.rotate_left.ensures ∙ left 32 c.args.x (c.args.y % 32) c.ranges.x.fits (omega arith)
