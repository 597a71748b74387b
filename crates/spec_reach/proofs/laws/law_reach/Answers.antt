-- The three laws of reach.
use Rattle.spec_reach.proofs.ReachLemmas.{reach_is_closed, reach_is_least, reach_grows}
use Rattle.spec_reach.proofs.laws.law_reach.Goals as goal

pub returns : goal.returns
returns c = record { closed = reach_is_closed; least = reach_is_least; grows = reach_grows }
