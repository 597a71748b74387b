use Rattle.code_run.proofs.ResumeLemmas.{resume_waits}
use Rattle.code_run.proofs.StartLemmas.{on_err}
use Rattle.code_run.proofs.thread.Thread.resume.Goals as goal

pub returns-in_err-add_operands-clause-waits : goal.returns-in_err-add_operands-clause-waits
returns-in_err-add_operands-clause-waits c =
    on_err c.from_residual.result (resume_waits c.args.self.now c.args.call c.args.results.now)
