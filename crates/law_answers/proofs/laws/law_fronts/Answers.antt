-- Answers that begin alike.
use Rattle.law_answers.proofs.FrontLemmas as fronts
use Rattle.law_answers.proofs.laws.law_fronts.Goals as goal

pub returns : goal.returns
returns c = record { fronts = fronts.law_of_fronts }
