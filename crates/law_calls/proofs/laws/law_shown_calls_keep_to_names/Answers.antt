-- A call whose host hands out nothing unshown.
use Rattle.code_hosts.specs.Asked as hosts
use Rattle.law_calls.proofs.PlainLemmas.{keeps_to_names}
use Rattle.law_calls.proofs.laws.law_shown_calls_keep_to_names.Goals as goal

pub returns : goal.returns
returns g c =
    keeps_to_names (hosts.asked g.T.ResourceLimiter.growths g.H.HostBody.has g.K.CallHooks.hooks
    g.B.DeadlineBehaviour.behaves g.E.EpochSource.readings g.H.HostBody.steps)
