-- What was out of reach stays so.
use Rattle.law_confined.proofs.Confinement as confinement
use Rattle.law_confined.proofs.laws.law_g.Goals as goal

pub returns : goal.returns
returns c = record { reached = confinement.law_g; sets = confinement.law_g_of_sets }
