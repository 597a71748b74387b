use Rattle.std.proofs.Common.{List, subst, ap, ◌∙◌}
use Rattle.std.specs.Prelude.{IfOk}
use Rattle.spec_reach.specs.Nodes.{Node as Reached}
use Rattle.store_reach.specs.Sets.{members_of, IsReach}
use Rattle.wasm_plugins.proofs.RootLemmas.{roots_are}
use Rattle.wasm_plugins.proofs.meeting.reach_of_objects.Goals as goal

pub returns : goal.returns
returns g c =
    subst (λ (l : List Reached). IfOk c.reach_of.result (λ set. IsReach c.args.store.now.machine l set))
    (ap members_of (c.as_slice.ensures.value ∙ c.in_ok-roots.ensures)
    ∙ roots_are c.args.store.now.machine c.args.objects.now c.requires)
    c.reach_of.ensures
