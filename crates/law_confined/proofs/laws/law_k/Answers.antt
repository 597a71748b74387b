-- What valid code keeps.
use Rattle.law_confined.proofs.KeptLemmas as keeping
use Rattle.law_confined.proofs.laws.law_k.Goals as goal

pub returns : goal.returns
returns c = record { kept = keeping.law_k }
