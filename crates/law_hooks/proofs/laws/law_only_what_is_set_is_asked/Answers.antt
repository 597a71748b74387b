-- Who is asked.
use Rattle.law_hooks.proofs.LawLemmas.{only_what_is_set_is_asked}
use Rattle.law_hooks.proofs.laws.law_only_what_is_set_is_asked.Goals as goal

pub returns : goal.returns
returns c = record { asked = only_what_is_set_is_asked }
