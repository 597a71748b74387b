-- Nothing outside of what is reached is read.
use Rattle.law_confined.proofs.Sight as sight
use Rattle.law_confined.proofs.SightFronts as fronts
use Rattle.law_confined.proofs.laws.law_s.Goals as goal

pub returns : goal.returns
returns c = record {
  reached = sight.law_s;
  sets = sight.law_s_of_sets;
  same = sight.reach_is_same;
  fronts = fronts.law_s_of_fronts;
}
