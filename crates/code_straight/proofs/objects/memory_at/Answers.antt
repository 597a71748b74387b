use Rattle.std.proofs.Common.{sym, ◌∙◌, arith}
use Rattle.std.proofs.lemmas.Option.{slice_get_past}
use Rattle.spec_execution.specs.Straight.{Sticks}
use Rattle.code_straight.proofs.FindingLemmas.{has_memory}
use Rattle.code_straight.proofs.InstanceLemmas.{on_memory_is, found_as, found_at}
use Rattle.code_straight.proofs.objects.memory_at.Goals as goal

pub returns-in_default : goal.returns-in_default
returns-in_default c = λ base go.
    on_memory_is Sticks base c.args.program.now c.args.held.now c.args.instance c.args.index go
    ∙ found_as Sticks _ (sym c.memory_number.ensures ∙ c.in_default.is)

pub returns-then-number-memory_count : goal.returns-then-number-memory_count
returns-then-number-memory_count c = λ base go.
    on_memory_is Sticks base c.args.program.now c.args.held.now c.args.instance c.args.index go
    ∙ found_at Sticks _ _ (sym c.memory_number.ensures ∙ c.in-Some.is) (slice_get_past c.args.held.now.memories c.in-Some.number
    (omega (arith, c.if-number-memory_count.true, c.memory_count.ensures)))

pub returns : goal.returns
returns c =
    has_memory c.args.program.now c.args.held.now c.args.instance c.args.index c.in-Some.number
    (sym c.memory_number.ensures ∙ c.in-Some.is)
    (omega (arith, c.if-number-memory_count.false, c.memory_count.ensures))
