use Rattle.std.proofs.Common.{◌∙◌, sym}
use Rattle.std.specs.Prelude.{◌==◌, if◌then◌else◌}
use Rattle.code_straight.proofs.ChangeLemmas.{goes-pushed}
use Rattle.code_straight.proofs.variables.select.Goals as goal

pub returns-in_default-clause-acts : goal.returns-in_default-clause-acts
returns-in_default-clause-acts c = λ instance m. c.in_default.ensures.takes _

pub returns-clause-acts : goal.returns-clause-acts
returns-clause-acts c = λ instance m.
    c.in-Some.ensures.takes _
    ∙ goes-pushed m c.take_choice.new.values c.push.new.self c.args.values.now.locals
    (if c.in-Some.condition == 0 then c.in-Some.y else c.in-Some.x) c.chosen.result c.push.ensures
    c.in-Some.ensures.locals (sym c.chosen.ensures)
