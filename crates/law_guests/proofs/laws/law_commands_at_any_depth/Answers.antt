-- Commands that bodies ask for keep to what they reach.
use Rattle.law_guests.proofs.DepthLemmas.{commands_confine, commands_confine_to_sets, commands_keep_reach, commands_keep_reach_of_sets, commands_see_reach, commands_see_sets}
use Rattle.law_guests.proofs.laws.law_commands_at_any_depth.Goals as goal

pub returns : goal.returns
returns c = record {
  reached = commands_confine;
  sets = commands_confine_to_sets;
  kept = commands_keep_reach;
  kept_of_sets = commands_keep_reach_of_sets;
  seen = commands_see_reach;
  seen_of_sets = commands_see_sets;
}
