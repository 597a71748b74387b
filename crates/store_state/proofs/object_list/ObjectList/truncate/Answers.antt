use Rattle.store_state.proofs.CutLemmas.{cut_seen, cut_kept}
use Rattle.store_state.proofs.object_list.ObjectList.truncate.Goals as goal

pub invariant_of-self : goal.invariant_of-self
invariant_of-self g c =
    let o = g.X.StoredObject in
    cut_kept o.seen c.self.inside.objects.items c.truncate.new.self.items c.args.count c.truncate.ensures.items o.is_sized
    c.self.invariant

pub returns : goal.returns
returns g c =
    cut_seen g.X.StoredObject.seen c.self.inside.objects.items c.truncate.new.self.items c.args.count
    c.truncate.ensures.items c.args.self.now c.self.view_is
