use Rattle.std.proofs.Common.{arith, string_bytes}
use Rattle.binary_run.proofs.OptionLemmas.{next_option, limits_kept}
use Rattle.binary_run.proofs.words.asked.Goals as goal

pub options-preserved : goal.options-preserved
options-preserved c = (
  next_option string_bytes _ c.options.options _ c.in-Some.name c.options.rest.now c.word-item.result c.number-item.result
      (omega (arith, c.in-len1-up.len_at_least)) (omega (arith, c.in-len1-up-arguments.len_at_least)) c.word-item.is
      c.number-item.is (rw c.as_str.ensures.value at c.in-Some.ensures)
      (rw c.as_str-in-len1-up.ensures.value at c.in_ok-options.ensures) c.options.invariant.0,
  limits_kept c.options.options _ c.in-Some.name _ c.options.invariant.1 c.in_ok-options.ensures,
)
