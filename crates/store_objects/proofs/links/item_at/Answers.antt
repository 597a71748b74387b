use Rattle.std.proofs.Common.{◌≡◌, ◌-◌, ◌+◌, sym, ap, ◌∙◌, arith, length, drop, ℕ}
use Rattle.std.specs.Prelude.{slice_get, Some, None, Option}
use Rattle.store_objects.proofs.LinkLemmas.{no_more, next_here, next_behind}
use Rattle.store_objects.specs.Links.{segment_places, member}
use Rattle.store_objects.specs.declared.node.Node.{Node}
use Rattle.store_objects.proofs.links.item_at.Goals as goal

pub returns-in-Some : goal.returns-in-Some
returns-in-Some c =
    c.in_reference.ensures
    ∙ (next_here c.args.segments.now c.loop-segment.segment-index c.segment-item.result c.loop-segment-test.true
    c.segment-item.is c.loop-segment.rest c.in-Some.reference (sym c.in-Some.is ∙ c.get.ensures)
    ∙ ap (λ (o : Option (Option Node)). member o) c.loop-segment.invariant)

pub overflow_sub-rest : goal.overflow_sub-rest
overflow_sub-rest c =
    omega (arith, c.len-rest.ensures, no_more c.segment-item.result c.loop-segment.rest (sym c.get.ensures ∙ c.in-None.is))

pub loop-segment-preserved : goal.loop-segment-preserved
loop-segment-preserved c =
    ap (λ (n : ℕ). slice_get (segment_places (drop (c.loop-segment.segment-index + 1) c.args.segments.now))
    (c.loop-segment.rest - n)) c.len-rest.ensures
    ∙ (next_behind c.args.segments.now c.loop-segment.segment-index c.segment-item.result c.loop-segment-test.true
    c.segment-item.is c.loop-segment.rest (sym c.in-None.is ∙ c.get.ensures)
    ∙ c.loop-segment.invariant)
