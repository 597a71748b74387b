-- The law of a host that hands out nothing unshown.
use Rattle.law_plugins.proofs.ShowingLemmas.{shows_alone}
use Rattle.host_shown.proofs.laws.law_nothing_is_unshown.Goals as goal

pub returns : goal.returns
returns g c = shows_alone _ (λ h k s t body state after cause seen what i. (i.said, i.shown))
