-- What no deed reached is as it was.
use Rattle.law_guests.proofs.DeedLemmas.{unreached_is_same, unreached_stays_enclosed, unreached_guest_is_kept}
use Rattle.law_guests.proofs.laws.law_deeds_keep_what_they_do_not_reach.Goals as goal

pub returns : goal.returns
returns c = record {
  objects = unreached_is_same;
  sets = unreached_stays_enclosed;
  guests = unreached_guest_is_kept;
}
