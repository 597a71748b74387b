use Rattle.std.proofs.Common.{◌-◌}
use Rattle.code_stack.specs.Reading.{TakesI32}
use Rattle.code_straight.specs.Frames.{topmost}
use Rattle.code_leaps.specs.Leaps.{placed}
use Rattle.code_leaps.proofs.LeapCallLemmas.{element_leaps}
use Rattle.code_leaps.proofs.leap_calls.call_element.Goals as goal

pub returns-clause-leaps : goal.returns-clause-leaps
returns-clause-leaps c =
    let rows = c.args.rows.now in
    let e = c.enter_called.new in
    let taken : TakesI32 (topmost c.args.height rows.operands.last) c.in_ok-place.place
    (topmost (c.args.height - 1) rows.operands.last) = rw c.last.ensures at c.in_ok-place.ensures.takes in
    element_leaps c.args.program.now c.args.frames c.in_ok-number.number c.args.activation.now c.args.layers.now
    rows.operands rows.locals c.args.rest.now c.args.height c.in_ok-called.called c.in_ok-called.ensures.calls
    c.args.passes c.if-not-passes.false c.requires
    (λ h. placed e.activation e.layers e.rows.operands e.rows.locals.before h.code.now h.height e.rows.locals.last)
    c.args.held.now c.args.ty c.args.index c.in_ok-place.place c.in_ok-number.ensures taken c.in_ok-called.ensures.enough
    c.enter_called.result c.enter_called.ensures.entered
