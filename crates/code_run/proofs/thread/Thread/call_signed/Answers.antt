use Rattle.std.proofs.Common.{sym}
use Rattle.code_run.specs.Steps.{came}
use Rattle.code_run.proofs.IndirectCallLemmas.{signed_none, signed_other, signed_goes}
use Rattle.code_run.proofs.thread.Thread.call_signed.Goals as goal

pub returns-in_default : goal.returns-in_default
returns-in_default c =
    signed_none c.args.program.now c.args.frames c.args.wanted.now c.args.number c.args.self.now c.args.self.now
    c.in_default.ensures

pub returns-then-not-matches : goal.returns-then-not-matches
returns-then-not-matches c =
    signed_other c.args.program.now c.args.frames c.args.wanted.now c.args.number c.args.self.now c.args.self.now
    c.in-Some.own.now c.in-Some.ensures (sym c.if-not-matches.ensures)

pub returns : goal.returns
returns c =
    signed_goes c.args.program.now c.args.frames c.args.wanted.now c.args.number c.args.self.now c.call.new.self
    c.in-Some.own.now c.in-Some.ensures (came c.in_ok-step.step c.call.new.self) (sym c.if-not-matches.ensures) c.in_ok-step.ensures
