use Rattle.store_state.proofs.ChangeLemmas.{changes, keeps}
use Rattle.store_state.proofs.Sizes.{same_by_copy}
use Rattle.store_state.specs.Objects.{takes_part, with_part}
use Rattle.store_state.proofs.object_list.ObjectList.init.Goals as goal

pub invariant_of-self : goal.invariant_of-self
invariant_of-self g c =
    let o = g.X.StoredObject in
    let x = o.seen c.index_mut.result.now in
    let source = o.segment_items c.args.segment.now in
    keeps o.seen c.self.inside.objects.items c.args.self.now c.self.view_is c.args.number c.index_mut.result.now
    c.requires c.index_mut.ensures.value c.init_items.new.self
    (takes_part o.items c.args.at c.args.from c.args.len source)
    (with_part o.items o.with_items c.args.at c.args.from c.args.len source) c.init_items.result c.init_items.ensures
    o.is_sized (λ e k. g.met.X.StoredObject.sized_alike x _ (same_by_copy c.args.at (o.items x) c.args.from c.args.len
    source e) k) c.self.invariant

pub returns : goal.returns
returns g c =
    let o = g.X.StoredObject in
    let source = o.segment_items c.args.segment.now in
    changes o.seen c.self.inside.objects.items c.args.self.now c.self.view_is c.args.number c.index_mut.result.now
    c.requires c.index_mut.ensures.value c.init_items.new.self
    (takes_part o.items c.args.at c.args.from c.args.len source)
    (with_part o.items o.with_items c.args.at c.args.from c.args.len source) c.init_items.result c.init_items.ensures
