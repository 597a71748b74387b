use Rattle.std.proofs.Common.{sym}
use Rattle.code_run.proofs.CallLemmas.{calls_none}
use Rattle.code_run.proofs.thread.Thread.call.Goals as goal

pub returns-in-None : goal.returns-in-None
returns-in-None c = calls_none c.args.program.now c.args.frames c.args.number c.args.self.now c.args.self.now
    (sym c.in-None.ensures)

pub returns-in_ok-step-in-Some-Guest : goal.returns-in_ok-step-in-Some-Guest
returns-in_ok-step-in-Some-Guest c = c.in_ok-step-in-Some-Guest.ensures c.args.number
    (sym (rw c.in-Some-Guest.field-0-is at c.in-Some-Guest.ensures))

pub returns-in-Some-Host : goal.returns-in-Some-Host
returns-in-Some-Host c = c.call_host.ensures c.args.program.now c.args.number
    (sym (rw c.in-Some-Host.field-0-is at c.in-Some-Host.ensures))
