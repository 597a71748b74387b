-- A step of a body that is answered from outside.
use Rattle.law_open.proofs.OperationLemmas.{operations_come}
use Rattle.law_open.proofs.StepLemmas.{steps_are_asked, steps_rest, answers_go_on, operations_go_on, calls_go_on}
use Rattle.law_open.proofs.laws.law_steps.Goals as goal

pub returns : goal.returns
returns c = record {
  asked = steps_are_asked;
  rests = steps_rest;
  answered = answers_go_on;
  operations = operations_go_on;
  rows = operations_come;
  calls = calls_go_on;
}
