use Rattle.std.proofs.Common.{sym}
use Rattle.code_run.proofs.StartLemmas.{on_err, starts_deep, starts_none, starts_host}
use Rattle.code_run.proofs.starts.start.Goals as goal

pub returns-then-depth-frames-clause-starts : goal.returns-then-depth-frames-clause-starts
returns-then-depth-frames-clause-starts c =
    starts_deep c.args.program.now c.args.frames c.args.depth c.args.function c.args.arguments.now
    c.if-depth-frames.true

pub returns-in-None-clause-starts : goal.returns-in-None-clause-starts
returns-in-None-clause-starts c =
    starts_none c.args.program.now c.args.frames c.args.depth c.args.function c.args.arguments.now
    c.if-depth-frames.false (sym c.in-None.ensures)

pub returns-in-Some-Host-clause-starts : goal.returns-in-Some-Host-clause-starts
returns-in-Some-Host-clause-starts c =
    starts_host c.args.program.now c.args.frames c.args.depth c.args.function c.args.arguments.now
    c.if-depth-frames.false
    (record { ty = c.in-Some-Host.ty; body = c.in-Some-Host.body; stored = c.in-Some-Host.stored })
    (sym (rw c.in-Some-Host.field-0-is at c.in-Some-Host.ensures))

pub returns-in_ok-started-in-Some-Guest-clause-starts : goal.returns-in_ok-started-in-Some-Guest-clause-starts
returns-in_ok-started-in-Some-Guest-clause-starts c =
    c.in_ok-started-in-Some-Guest.ensures.starts c.args.frames c.args.function
    (c.if-depth-frames.false, sym (rw c.in-Some-Guest.field-0-is at c.in-Some-Guest.ensures))

pub returns-in_err-started-in-Some-Guest-clause-waits : goal.returns-in_err-started-in-Some-Guest-clause-waits
returns-in_err-started-in-Some-Guest-clause-waits c =
    on_err c.from_residual.result
    (c.in_err-started-in-Some-Guest.ensures.waits c.args.frames c.args.function
    (c.if-depth-frames.false, sym (rw c.in-Some-Guest.field-0-is at c.in-Some-Guest.ensures)))
