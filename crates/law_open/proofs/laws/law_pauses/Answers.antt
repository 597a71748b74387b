-- A pause is a stop, confined.
use Rattle.law_open.proofs.PauseLemmas.{pauses_are_stops, pauses_keep, pauses_confine, pauses_confine_to_sets, pauses_confine_named, pauses_keep_reach, pauses_see}
use Rattle.law_open.proofs.laws.law_pauses.Goals as goal

pub returns : goal.returns
returns c = record {
  stops = pauses_are_stops;
  kept = pauses_keep;
  confined = pauses_confine;
  sets = pauses_confine_to_sets;
  named = pauses_confine_named;
  reach = pauses_keep_reach;
  sees = pauses_see;
}
