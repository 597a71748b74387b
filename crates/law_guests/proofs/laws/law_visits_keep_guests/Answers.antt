-- Guests stay apart over all visits.
use Rattle.law_guests.proofs.VisitLemmas.{visits_keep_guests}
use Rattle.law_guests.proofs.laws.law_visits_keep_guests.Goals as goal

pub returns : goal.returns
returns c = visits_keep_guests
