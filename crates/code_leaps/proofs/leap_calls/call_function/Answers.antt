use Rattle.code_leaps.specs.Leaps.{placed}
use Rattle.code_leaps.proofs.LeapCallLemmas.{call_leaps}
use Rattle.code_leaps.proofs.leap_calls.call_function.Goals as goal

pub returns-clause-leaps : goal.returns-clause-leaps
returns-clause-leaps c = λ tables.
    let rows = c.args.rows.now in
    let e = c.enter_called.new in
    call_leaps c.args.program.now c.args.frames c.in_ok-number.number c.args.activation.now c.args.layers.now rows.operands
    rows.locals c.args.rest.now c.args.height c.in_ok-called.called c.in_ok-called.ensures.calls c.args.passes
    c.if-not-passes.false c.requires
    (λ h. placed e.activation e.layers e.rows.operands e.rows.locals.before h.code.now h.height e.rows.locals.last) tables
    c.args.index c.in_ok-number.ensures c.in_ok-called.ensures.enough c.enter_called.result c.enter_called.ensures.entered
