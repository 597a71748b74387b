use Rattle.std.proofs.Common.{set, ap, ◌∙◌}
use Rattle.store_state.proofs.ChangeLemmas.{known, found, found_there, kept, put, put_same, on_err}
use Rattle.store_state.proofs.object_list.ObjectList.grow.Goals as goal

pub lengthen-requires-clause-sized : goal.lengthen-requires-clause-sized
lengthen-requires-clause-sized g c =
    known g.X.StoredObject.seen c.self.inside.objects.items c.args.self.now c.self.view_is c.args.number
    c.index_mut.result.now c.requires.there c.index_mut.ensures.value g.X.StoredObject.is_sized c.self.invariant

pub lengthen-requires-clause-may_grow : goal.lengthen-requires-clause-may_grow
lengthen-requires-clause-may_grow g c =
    c.requires.may_grow (g.X.StoredObject.seen c.index_mut.result.now) (found_there g.X.StoredObject.seen
    c.self.inside.objects.items c.args.self.now c.self.view_is c.args.number c.index_mut.result.now c.requires.there
    c.index_mut.ensures.value)

pub invariant_of-self : goal.invariant_of-self
invariant_of-self g c =
    kept g.X.StoredObject.seen c.self.inside.objects.items c.args.self.now c.self.view_is c.args.number
    c.index_mut.result.now c.requires.there c.index_mut.ensures.value g.X.StoredObject.is_sized c.lengthen.new.self
    c.lengthen.ensures.sized c.self.invariant

pub returns-in_err-lengthen-clause-err : goal.returns-in_err-lengthen-clause-err
returns-in_err-lengthen-clause-err g c =
    on_err c.from_residual.result
    (put_same g.X.StoredObject.seen c.self.inside.objects.items c.args.self.now c.self.view_is c.args.number
    c.index_mut.result.now c.requires.there c.index_mut.ensures.value c.lengthen.new.self c.in_err-lengthen.ensures.err)

pub invariant_of-self-2 : goal.invariant_of-self-2
invariant_of-self-2 g c =
    kept g.X.StoredObject.seen c.self.inside.objects.items c.args.self.now c.self.view_is c.args.number
    c.index_mut.result.now c.requires.there c.index_mut.ensures.value g.X.StoredObject.is_sized c.lengthen.new.self
    c.lengthen.ensures.sized c.self.invariant

pub returns-clause-ok : goal.returns-clause-ok
returns-clause-ok g c = λ x e.
    put g.X.StoredObject.seen c.self.inside.objects.items c.args.self.now c.self.view_is c.args.number
    c.index_mut.result.now c.requires.there c.index_mut.ensures.value c.lengthen.new.self
    ∙ ap (set c.args.self.now c.args.number) (c.in_ok-lengthen.ensures.ok
    ∙ ap (λ u. g.X.StoredObject.longer u c.args.growth)
    (found g.X.StoredObject.seen c.self.inside.objects.items c.args.self.now c.self.view_is c.args.number
    c.index_mut.result.now c.requires.there c.index_mut.ensures.value x e))
