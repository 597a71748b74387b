use Rattle.law_code.proofs.FollowLemmas.{runs_follow, each_has_a_reply}
use Rattle.law_code.proofs.PlainRuns.{nothing_is_asked, nothing_is_asked_to_a_stop}
use Rattle.law_code.proofs.Stops.{stop_before_a_turn, stop_before_any_turn}
use Rattle.law_code.proofs.laws.law_runs.Goals as goal

pub returns-clause-follow : goal.returns-clause-follow
returns-clause-follow c = runs_follow

pub returns-clause-replies : goal.returns-clause-replies
returns-clause-replies c = each_has_a_reply

pub returns-clause-stop : goal.returns-clause-stop
returns-clause-stop c = stop_before_a_turn

pub returns-clause-any_stop : goal.returns-clause-any_stop
returns-clause-any_stop c = stop_before_any_turn

pub returns-clause-unasked : goal.returns-clause-unasked
returns-clause-unasked c = nothing_is_asked

pub returns-clause-unasked_to_a_stop : goal.returns-clause-unasked_to_a_stop
returns-clause-unasked_to_a_stop c = nothing_is_asked_to_a_stop
