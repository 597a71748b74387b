use Rattle.session_bytes.proofs.HeldLemmas.{none_ran}
use Rattle.session_bytes.proofs.runs.run.Goals as goal

pub returns-in_default-clause-ran : goal.returns-in_default-clause-ran
returns-in_default-clause-ran c = none_ran c.args.script.now c.args.out.now

pub returns-in_default-run_held-clause-ran : goal.returns-in_default-run_held-clause-ran
returns-in_default-run_held-clause-ran c = none_ran c.args.script.now c.args.out.now
