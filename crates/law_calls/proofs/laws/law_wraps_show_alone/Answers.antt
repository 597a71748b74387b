use Rattle.law_calls.proofs.HostLemmas.{wrap_shows}
use Rattle.law_calls.proofs.laws.law_wraps_show_alone.Goals as goal

pub returns : goal.returns
returns g c = λ none closure old new s t body state after seen what w.
    wrap_shows seen _ _ none _ _ old new s t body state after seen.arguments what w
