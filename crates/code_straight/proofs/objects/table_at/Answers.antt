use Rattle.std.proofs.Common.{sym, ◌∙◌, arith}
use Rattle.std.proofs.lemmas.Option.{slice_get_past}
use Rattle.spec_execution.specs.Straight.{Sticks}
use Rattle.code_straight.proofs.FindingLemmas.{has_table}
use Rattle.code_straight.proofs.InstanceLemmas.{on_table_is, found_as, found_at}
use Rattle.code_straight.proofs.objects.table_at.Goals as goal

pub returns-in_default : goal.returns-in_default
returns-in_default c = λ base go.
    on_table_is Sticks base c.args.program.now c.args.held.now c.args.instance c.args.index go
    ∙ found_as Sticks _ (sym c.table_number.ensures ∙ c.in_default.is)

pub returns-then-number-table_count : goal.returns-then-number-table_count
returns-then-number-table_count c = λ base go.
    on_table_is Sticks base c.args.program.now c.args.held.now c.args.instance c.args.index go
    ∙ found_at Sticks _ _ (sym c.table_number.ensures ∙ c.in-Some.is) (slice_get_past c.args.held.now.tables c.in-Some.number
    (omega (arith, c.if-number-table_count.true, c.table_count.ensures)))

pub returns : goal.returns
returns c =
    has_table c.args.program.now c.args.held.now c.args.instance c.args.index c.in-Some.number
    (sym c.table_number.ensures ∙ c.in-Some.is)
    (omega (arith, c.if-number-table_count.false, c.table_count.ensures))
