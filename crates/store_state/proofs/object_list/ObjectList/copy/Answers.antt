use Rattle.std.proofs.Common.{◌≡◌, ℕ, get_or, sym, ◌∙◌, subst, arith}
use Rattle.store_state.proofs.ChangeLemmas.{changes_by, keeps_by, changes_front, keeps_front, changes_back, keeps_back}
use Rattle.store_state.proofs.Sizes.{same_by_copy}
use Rattle.store_state.specs.Objects.{takes_part, with_part}
use Rattle.store_state.proofs.object_list.ObjectList.copy.Goals as goal

pub invariant_of-self : goal.invariant_of-self
invariant_of-self g c =
    let o = g.X.StoredObject in
    keeps_by o.seen c.self.inside.objects.items c.args.self.now c.self.view_is c.args.dst
    c.args.src
    c.index_mut.result.now c.index_mut.result.now c.copy_items.new.self c.requires.dst_there c.requires.src_there
    c.index_mut.ensures.value (subst (λ (k : ℕ). c.index_mut.result.now
    ≡ get_or c.self.inside.objects.items k c.index_mut.result.now) c.if-dst-src.true c.index_mut.ensures.value)
    (λ u. takes_part o.items c.args.at c.args.from c.args.len (o.items u))
    (λ u. with_part o.items o.with_items c.args.at c.args.from c.args.len (o.items u))
    c.copy_items.result c.copy_items.ensures
    o.is_sized (λ u v e k. g.met.X.StoredObject.sized_alike v _ (same_by_copy c.args.at (o.items v) c.args.from c.args.len
    (o.items u) e) k) c.self.invariant

pub returns-then-dst-src : goal.returns-then-dst-src
returns-then-dst-src g c =
    let o = g.X.StoredObject in
    changes_by o.seen c.self.inside.objects.items c.args.self.now c.self.view_is c.args.dst
    c.args.src
    c.index_mut.result.now c.index_mut.result.now c.copy_items.new.self c.requires.dst_there c.requires.src_there
    c.index_mut.ensures.value (subst (λ (k : ℕ). c.index_mut.result.now
    ≡ get_or c.self.inside.objects.items k c.index_mut.result.now) c.if-dst-src.true c.index_mut.ensures.value)
    (λ u. takes_part o.items c.args.at c.args.from c.args.len (o.items u))
    (λ u. with_part o.items o.with_items c.args.at c.args.from c.args.len (o.items u))
    c.copy_items.result c.copy_items.ensures

pub invariant_of-self-then-dst-src-2 : goal.invariant_of-self-then-dst-src-2
invariant_of-self-then-dst-src-2 g c =
    let o = g.X.StoredObject in
    keeps_front o.seen c.self.inside.objects c.args.self.now c.self.view_is c.args.dst
    c.args.src
    c.requires.dst_there c.requires.src_there c.copy_items_of.new.self
    (λ u. takes_part o.items c.args.at c.args.from c.args.len (o.items u))
    (λ u. with_part o.items o.with_items c.args.at c.args.from c.args.len (o.items u))
    c.copy_items_of.result c.split_at_mut-front.result.0.now c.split_at_mut-front.result.1.now c.index-front-dst.result
    c.index-back-0.result (sym c.deref_mut.ensures.value ∙ c.split_at_mut-front.ensures.value)
    c.split_at_mut-front.ensures.front_len c.if-dst-src-2.true c.index-front-dst.is c.index-back-0.is
    c.copy_items_of.ensures
    o.is_sized (λ u v e k. g.met.X.StoredObject.sized_alike v _ (same_by_copy c.args.at (o.items v) c.args.from c.args.len
    (o.items u) e) k) c.self.invariant

pub returns-then-dst-src-2 : goal.returns-then-dst-src-2
returns-then-dst-src-2 g c =
    let o = g.X.StoredObject in
    changes_front o.seen c.self.inside.objects c.args.self.now c.self.view_is c.args.dst
    c.args.src
    c.requires.dst_there c.requires.src_there c.copy_items_of.new.self
    (λ u. takes_part o.items c.args.at c.args.from c.args.len (o.items u))
    (λ u. with_part o.items o.with_items c.args.at c.args.from c.args.len (o.items u))
    c.copy_items_of.result c.split_at_mut-front.result.0.now c.split_at_mut-front.result.1.now c.index-front-dst.result
    c.index-back-0.result (sym c.deref_mut.ensures.value ∙ c.split_at_mut-front.ensures.value)
    c.split_at_mut-front.ensures.front_len c.if-dst-src-2.true c.index-front-dst.is c.index-back-0.is
    c.copy_items_of.ensures

pub invariant_of-self-2 : goal.invariant_of-self-2
invariant_of-self-2 g c =
    let o = g.X.StoredObject in
    keeps_back o.seen c.self.inside.objects c.args.self.now c.self.view_is c.args.dst c.args.src
    c.requires.dst_there c.requires.src_there c.copy_items_of-2.new.self
    (λ u. takes_part o.items c.args.at c.args.from c.args.len (o.items u))
    (λ u. with_part o.items o.with_items c.args.at c.args.from c.args.len (o.items u))
    c.copy_items_of-2.result c.split_at_mut-front-2.result.0.now c.split_at_mut-front-2.result.1.now c.index-back-0-2.result
    c.index-front-src.result (sym c.deref_mut-2.ensures.value ∙ c.split_at_mut-front-2.ensures.value)
    c.split_at_mut-front-2.ensures.front_len (omega (arith, c.if-dst-src.false, c.if-dst-src-2.false))
    c.index-back-0-2.is c.index-front-src.is
    c.copy_items_of-2.ensures
    o.is_sized (λ u v e k. g.met.X.StoredObject.sized_alike v _ (same_by_copy c.args.at (o.items v) c.args.from c.args.len
    (o.items u) e) k) c.self.invariant

pub returns : goal.returns
returns g c =
    let o = g.X.StoredObject in
    changes_back o.seen c.self.inside.objects c.args.self.now c.self.view_is c.args.dst
    c.args.src
    c.requires.dst_there c.requires.src_there c.copy_items_of-2.new.self
    (λ u. takes_part o.items c.args.at c.args.from c.args.len (o.items u))
    (λ u. with_part o.items o.with_items c.args.at c.args.from c.args.len (o.items u))
    c.copy_items_of-2.result c.split_at_mut-front-2.result.0.now c.split_at_mut-front-2.result.1.now c.index-back-0-2.result
    c.index-front-src.result (sym c.deref_mut-2.ensures.value ∙ c.split_at_mut-front-2.ensures.value)
    c.split_at_mut-front-2.ensures.front_len (omega (arith, c.if-dst-src.false, c.if-dst-src-2.false))
    c.index-back-0-2.is c.index-front-src.is
    c.copy_items_of-2.ensures
