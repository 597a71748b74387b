use Rattle.law_code.proofs.PlainRuns.{run_keeps_objects, stop_keeps_objects}
use Rattle.law_code.proofs.laws.law_objects_stay.Goals as goal

pub returns-clause-run : goal.returns-clause-run
returns-clause-run c = run_keeps_objects

pub returns-clause-stop : goal.returns-clause-stop
returns-clause-stop c = stop_keeps_objects
