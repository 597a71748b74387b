use Rattle.std.proofs.Common.{List, length, ap, sym, ◌∙◌}
use Rattle.std.specs.Option.{option_copied}
use Rattle.spec_machine.specs.declared.reply.Reply.{Reply}
use Rattle.binary_run.proofs.SpelledLemmas.{one_is_told}
use Rattle.binary_run.proofs.main_call.run_input.Goals as goal

pub unreachable-requires : goal.unreachable-requires
unreachable-requires g c =
    one_is_told c.in-Ok.call.bytes c.as_slice.result.now
    (ap (λ (rs : List Reply). length rs) c.as_slice.ensures ∙ c.in-Ok-run_call.ensures.answered)
    (sym c.verdict.ensures ∙ ap option_copied c.in-None.is)
