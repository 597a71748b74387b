use Rattle.std.proofs.Common.{◌∙◌}
use Rattle.wasm_values.specs.declared.refusals.Trap.TheVariants as trap
use Rattle.spec_execution.specs.Straight.{Sticks}
use Rattle.code_straight.proofs.ChangeLemmas.{changed}
use Rattle.code_straight.proofs.InstanceLemmas.{on_elements_is, found_as}
use Rattle.code_straight.proofs.tables.table_init.Goals as goal

pub returns-in-Some-init_elements-clause-acts : goal.returns-in-Some-init_elements-clause-acts
returns-in-Some-init_elements-clause-acts c = λ base.
    let y = c.in-Some-init_elements.ensures.tables in
    c.in-Some.ensures.takes _ ∙ (c.in-Some-table_at.ensures.leads base _
    ∙ (on_elements_is Sticks base c.args.program.now c.args.held.now c.args.instance c.args.segment
    c.in-Some-table_at.ensures.names c.in-Some-table_at.ensures.instance_is _
    ∙ found_as Sticks _ y.1
    ∙ changed trap.TableOutOfBounds c.done_or.ensures (λ l. record c.args.held.now { tables = l }) y.2
    c.in-Some-init_elements.ensures.rest base _ _ c.in-Some.ensures.locals c.in-Some-table_at.ensures.found))

pub returns-in-None-clause-acts : goal.returns-in-None-clause-acts
returns-in-None-clause-acts c = λ base.
    c.in-Some.ensures.takes _ ∙ (c.in-Some-table_at.ensures.leads base _
    ∙ on_elements_is Sticks base c.args.program.now c.args.held.now c.args.instance c.args.segment
    c.in-Some-table_at.ensures.names c.in-Some-table_at.ensures.instance_is _
    ∙ found_as Sticks _ c.in-None.ensures.tables.0)
