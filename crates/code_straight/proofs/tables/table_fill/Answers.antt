use Rattle.std.proofs.Common.{◌∙◌}
use Rattle.wasm_values.specs.declared.refusals.Trap.TheVariants as trap
use Rattle.code_straight.proofs.ChangeLemmas.{changed}
use Rattle.code_straight.proofs.tables.table_fill.Goals as goal

pub returns-clause-acts : goal.returns-clause-acts
returns-clause-acts c = λ base.
    c.in-Some.ensures.takes _
    ∙ (c.in-Some-table_at.ensures.leads base _
    ∙ changed trap.TableOutOfBounds c.done_or.ensures (λ l. record c.args.held.now { tables = l })
    c.fill_elements-done.ensures.tables
    c.fill_elements-done.ensures.rest base _ _ c.in-Some.ensures.locals c.in-Some-table_at.ensures.found)

pub returns-in_default-clause-acts : goal.returns-in_default-clause-acts
returns-in_default-clause-acts c = λ base. c.in_default.ensures.takes _
