use Rattle.std.proofs.Common.{Option, [], map, subst, ◌∙◌}
use Rattle.store_objects.specs.declared.node.Node.{Node}
use Rattle.store_reach.specs.Sets.{Adds, placed, if_there}
use Rattle.store_reach.proofs.SetLemmas.{next_place}
use Rattle.store_reach.proofs.WayLemmas.{next_root}
use Rattle.store_reach.proofs.reaching.roots_in.Goals as goal

pub loop-root-preserved : goal.loop-root-preserved
loop-root-preserved c =
    next_place [] c.loop-root.set c.add_found.new.self (map (if_there c.args.objects.now) c.args.roots.now)
    c.loop-root.root-index c.loop-root.invariant
    (subst (λ (o : Option Node). Adds c.loop-root.set (placed o) c.add_found.new.self)
    (c.if_there.ensures ∙ next_root c.args.objects.now c.args.roots.now c.loop-root.root-index _ c.loop-root-test.true)
    c.in_ok-add_found.ensures)
