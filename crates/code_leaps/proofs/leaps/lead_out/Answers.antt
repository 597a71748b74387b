use Rattle.std.proofs.Common.{◌∷◌, subst, sym, ap, ◌∙◌}
use Rattle.std.specs.Prelude.{IfSome}
use Rattle.code_leaps.specs.Leaps.{placed, LeapsTo}
use Rattle.code_leaps.proofs.leaps.lead_out.Goals as goal

pub returns-in-Call-clause-leaps : goal.returns-in-Call-clause-leaps
returns-in-Call-clause-leaps c =
    let rows = c.args.rows.now in
    let e = c.call_function.new in
    subst (λ is. IfSome c.call_function.result (λ h. LeapsTo c.args.program.now c.args.held.now.tables c.args.frames
    c.args.passes (placed c.args.activation.now c.args.layers.now rows.operands rows.locals.before is c.args.height
    rows.locals.last)
    (placed e.activation e.layers e.rows.operands e.rows.locals.before h.code.now h.height e.rows.locals.last)))
    (sym (c.in_ok-instr.ensures.cases.0 ∙ ap (λ j. j ∷ c.in_ok-instr.rest.now) c.in-Call.is))
    (c.call_function.ensures.leaps c.args.held.now.tables)

pub returns-in-CallIndirect-clause-leaps : goal.returns-in-CallIndirect-clause-leaps
returns-in-CallIndirect-clause-leaps c =
    let rows = c.args.rows.now in
    let e = c.call_element.new in
    subst (λ is. IfSome c.call_element.result (λ h. LeapsTo c.args.program.now c.args.held.now.tables c.args.frames
    c.args.passes (placed c.args.activation.now c.args.layers.now rows.operands rows.locals.before is c.args.height
    rows.locals.last)
    (placed e.activation e.layers e.rows.operands e.rows.locals.before h.code.now h.height e.rows.locals.last)))
    (sym (c.in_ok-instr.ensures.cases.0 ∙ ap (λ j. j ∷ c.in_ok-instr.rest.now) c.in-CallIndirect.is))
    c.call_element.ensures.leaps

pub returns-in_default-clause-leaps : goal.returns-in_default-clause-leaps
returns-in_default-clause-leaps c =
    let rows = c.args.rows.now in
    c.leap.ensures.leaps c.args.program.now c.args.held.now.tables c.args.frames rows.locals.before rows.locals.last
