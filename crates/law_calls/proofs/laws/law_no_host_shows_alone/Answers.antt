use Rattle.law_calls.proofs.HostLemmas.{idle_shows}
use Rattle.law_calls.proofs.laws.law_no_host_shows_alone.Goals as goal

pub returns : goal.returns
returns g c = λ h k s t body state after cause seen what i. idle_shows seen h k s t state after what i
