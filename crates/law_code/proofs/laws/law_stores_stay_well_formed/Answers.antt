use Rattle.law_code.proofs.PlainRuns.{plain_run_keeps, plain_stop_keeps}
use Rattle.law_code.proofs.RunsKeep.{run_keeps, stop_keeps}
use Rattle.law_code.proofs.laws.law_stores_stay_well_formed.Goals as goal

pub returns-clause-run : goal.returns-clause-run
returns-clause-run c = run_keeps

pub returns-clause-stop : goal.returns-clause-stop
returns-clause-stop c = stop_keeps

pub returns-clause-plain_run : goal.returns-clause-plain_run
returns-clause-plain_run c = plain_run_keeps

pub returns-clause-plain_stop : goal.returns-clause-plain_stop
returns-clause-plain_stop c = plain_stop_keeps
