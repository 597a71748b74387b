-- What is reached in a well-formed store is there, and leads to nothing else.
use Rattle.spec_reach.proofs.ReachLemmas.{reach_links}
use Rattle.law_confined.proofs.ClosedSets.{there_has}
use Rattle.law_plugins.proofs.KeptLemmas.{reached_there}
use Rattle.law_plugins.proofs.ThereLemmas.{links_there}
use Rattle.law_guests.specs.Enclosed.{LinksAreThere, ReachIsEnclosed}

pub links_are_there : LinksAreThere
links_are_there m from to well there leads = links_there m well from to there leads

pub reach_is_enclosed : ReachIsEnclosed
reach_is_enclosed m from well = record {
  there = λ x e. reached_there m from x e;
  closed = λ x y e l.
      reach_links m from x y e l (there_has m y (links_there m well x y (reached_there m from x e) l));
}
