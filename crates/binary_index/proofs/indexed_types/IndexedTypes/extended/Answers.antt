use Rattle.std.proofs.Common.{rules}
use Rattle.binary_index.proofs.IndexLemmas.{extended_kept, extended_new}
use Rattle.binary_index.specs.Indexes.{IsIndexed}
use Rattle.binary_index.proofs.indexed_types.IndexedTypes.extended.Goals.{in-Some, in-None+in_ok-insert-in-None}
use Rattle.binary_index.proofs.indexed_types.IndexedTypes.extended.Goals as goal

pub invariant_of-result : goal.invariant_of-result
invariant_of-result c =
    elim c.match-get.branch as (λ _. IsIndexed c.push-2.new.self.items c.push.new.self.items c.match-get.index) [
      | in-Some w ↦
          extended_kept c.self.inside.types.items c.args.self c.push-2.new.self.items c.self.inside.firsts.items c.push.new.self.items
          c.self.inside.index c.match-get.index c.args.ty c.args.key.now c.as_slice.result.now w.in-Some.first c.match-get.first
          c.self.invariant c.self.view_is c.as_slice.ensures c.requires w.in-Some.ensures
          c.in_ok-push-2.ensures.items c.in_ok-push.ensures.items w.first-is w.index-is
      | in-None+in_ok-insert-in-None w ↦
          extended_new c.self.inside.types.items c.args.self c.push-2.new.self.items c.self.inside.firsts.items c.push.new.self.items
          c.self.inside.index w.insert.new.self c.match-get.index c.args.ty c.args.key.now c.as_slice.result.now w.as_slice-in-None.result.now
          c.in-Ok.number c.match-get.first
          c.self.invariant c.self.view_is c.as_slice.ensures w.as_slice-in-None.ensures c.requires w.in-None.ensures
          c.in_ok-push-2.ensures.items c.in_ok-push.ensures.items w.first-is
          (let h = c.in-Ok.ensures in let l = c.len.ensures in search rules) w.index-is w.in_ok-insert-in-None.ensures
    ]
