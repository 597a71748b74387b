use Rattle.code_hosts.proofs.SettleLemmas.{early_past_code}
use Rattle.code_hosts.proofs.end_part.back_to_code.Goals as goal

pub returns : goal.returns
returns c = λ id. (early_past_code c.args.thread.value c.args.call c.args.how c.in_default.not-Returned, c.requires.end)
