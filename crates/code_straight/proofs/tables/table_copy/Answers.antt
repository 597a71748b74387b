use Rattle.std.proofs.Common.{◌∙◌}
use Rattle.wasm_values.specs.declared.refusals.Trap.TheVariants as trap
use Rattle.code_straight.proofs.ChangeLemmas.{changed, kept}
use Rattle.code_straight.proofs.tables.table_copy.Goals as goal

pub returns-clause-acts : goal.returns-clause-acts
returns-clause-acts c = λ base.
    c.in-Some.ensures.takes _ ∙ (c.in-Some-table_at.ensures.leads base _ ∙ (c.in-Some-table_at-2.ensures.leads base _
    ∙ changed trap.TableOutOfBounds c.done_or.ensures (λ l. record c.args.held.now { tables = l })
    (c.copy_elements-done.ensures.tables c.in-Some-table_at-2.ensures.table c.in-Some-table_at-2.ensures.found)
    c.copy_elements-done.ensures.rest base _ _ c.in-Some.ensures.locals c.in-Some-table_at.ensures.found))

pub returns-clause-kept : goal.returns-clause-kept
returns-clause-kept c =
    kept trap.TableOutOfBounds c.done_or.ensures (λ l. record c.args.held.now { tables = l })
    (c.copy_elements-done.ensures.tables c.in-Some-table_at-2.ensures.table c.in-Some-table_at-2.ensures.found)
    c.copy_elements-done.ensures.rest
