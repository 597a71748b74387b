-- What is there leads to what is there.
use Rattle.law_guests.proofs.EnclosedLemmas.{links_are_there, reach_is_enclosed}
use Rattle.law_guests.proofs.laws.law_links_are_there.Goals as goal

pub returns : goal.returns
returns c = record { there = links_are_there; enclosed = reach_is_enclosed }
