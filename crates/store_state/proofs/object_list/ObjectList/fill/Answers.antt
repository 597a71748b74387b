use Rattle.std.proofs.Common.{replicate}
use Rattle.store_state.proofs.ChangeLemmas.{changes, keeps}
use Rattle.store_state.proofs.Sizes.{same_length}
use Rattle.store_state.specs.Objects.{takes_piece, with_piece}
use Rattle.store_state.proofs.object_list.ObjectList.fill.Goals as goal

pub invariant_of-self : goal.invariant_of-self
invariant_of-self g c =
    let o = g.X.StoredObject in
    let x = o.seen c.index_mut.result.now in
    let piece = replicate c.args.len c.args.value in
    keeps o.seen c.self.inside.objects.items c.args.self.now c.self.view_is c.args.number c.index_mut.result.now
    c.requires c.index_mut.ensures.value c.fill_items.new.self (takes_piece o.items c.args.at piece)
    (with_piece o.items o.with_items c.args.at piece) c.fill_items.result c.fill_items.ensures o.is_sized
    (λ e k. g.met.X.StoredObject.sized_alike x _ (same_length c.args.at (o.items x) piece e) k) c.self.invariant

pub returns : goal.returns
returns g c =
    let o = g.X.StoredObject in
    let piece = replicate c.args.len c.args.value in
    changes o.seen c.self.inside.objects.items c.args.self.now c.self.view_is c.args.number c.index_mut.result.now
    c.requires c.index_mut.ensures.value c.fill_items.new.self (takes_piece o.items c.args.at piece)
    (with_piece o.items o.with_items c.args.at piece) c.fill_items.result c.fill_items.ensures
