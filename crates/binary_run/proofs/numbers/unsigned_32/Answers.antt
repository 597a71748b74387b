use Rattle.std.proofs.Common.{◌∙◌}
use Rattle.binary_run.proofs.NumberLemmas.{unsigned_read}
use Rattle.binary_run.proofs.numbers.unsigned_32.Goals as goal

pub returns : goal.returns
returns c = c.ok.ensures.value ∙ unsigned_read c.args.word.now 32 c.parse.result c.parse.ensures.value.0
