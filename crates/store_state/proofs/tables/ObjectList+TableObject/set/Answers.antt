use Rattle.wasm_objects.specs.Growth.{TableObjectParts}
use Rattle.store_state.proofs.ChangeLemmas.{changes, keeps}
use Rattle.store_state.proofs.Sizes.{sized_element}
use Rattle.store_state.specs.Objects.{takes_element, with_element}
use Rattle.store_state.specs.Within.{IsTableSized}
use Rattle.store_state.proofs.tables.ObjectList+TableObject.set.Goals as goal

pub invariant_of-self : goal.invariant_of-self
invariant_of-self c =
    keeps (λ (h : TableObjectParts). h.table) c.self.inside.objects.items c.args.self.now c.self.view_is c.args.number
    c.index_mut.result.now
    c.requires c.index_mut.ensures.value c.set.new.self (takes_element c.args.at) (with_element c.args.at c.args.value)
    c.set.result (record { tested = c.set.ensures.range; changed = c.set.ensures.written; refused = c.set.ensures.refused }) IsTableSized
    (sized_element c.args.at c.args.value c.index_mut.result.now.table) c.self.invariant

pub returns : goal.returns
returns c =
    changes (λ (h : TableObjectParts). h.table) c.self.inside.objects.items c.args.self.now c.self.view_is c.args.number
    c.index_mut.result.now
    c.requires c.index_mut.ensures.value c.set.new.self (takes_element c.args.at) (with_element c.args.at c.args.value)
    c.set.result (record { tested = c.set.ensures.range; changed = c.set.ensures.written; refused = c.set.ensures.refused })
