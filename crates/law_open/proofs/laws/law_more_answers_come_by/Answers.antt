-- A run with more answers comes by.
use Rattle.law_open.proofs.ComingLemmas.{more_answers_come_by}
use Rattle.law_open.proofs.laws.law_more_answers_come_by.Goals as goal

pub returns : goal.returns
returns c = record { comes_by = more_answers_come_by }
