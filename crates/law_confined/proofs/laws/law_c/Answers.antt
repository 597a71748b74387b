-- Nothing outside of what is reached is changed.
use Rattle.law_confined.proofs.Confinement as confinement
use Rattle.law_confined.proofs.NamedConfinement.{runs_confine_named, stops_confine_named}
use Rattle.law_confined.proofs.RunConfinement.{runs_confine, stops_confine}
use Rattle.law_confined.proofs.laws.law_c.Goals as goal

pub returns : goal.returns
returns c = record {
  reached = confinement.law_c;
  sets = confinement.law_c_of_sets;
  runs = runs_confine;
  stops = stops_confine;
  named_runs = runs_confine_named;
  named_stops = stops_confine_named;
}
