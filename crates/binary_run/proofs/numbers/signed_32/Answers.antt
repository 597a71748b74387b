use Rattle.std.proofs.Common.{◌∙◌}
use Rattle.binary_run.proofs.NumberLemmas.{signed_read_32}
use Rattle.binary_run.proofs.numbers.signed_32.Goals as goal

pub returns : goal.returns
returns c = c.ok.ensures.value ∙ signed_read_32 c.args.word.now c.parse.result c.parse.ensures.value.0
