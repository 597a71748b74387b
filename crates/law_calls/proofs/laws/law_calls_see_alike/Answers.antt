-- Two calls in stores that are the same inside of what they reach.
use Rattle.law_calls.proofs.AlikeLemmas.{calls_see_alike, instantiations_see_alike}
use Rattle.law_calls.proofs.laws.law_calls_see_alike.Goals as goal

pub returns : goal.returns
returns c = record { calls = calls_see_alike; instantiations = instantiations_see_alike }
