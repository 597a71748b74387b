use Rattle.wasm_objects.specs.Growth.{MemoryObjectParts}
use Rattle.store_state.proofs.ChangeLemmas.{changes, keeps}
use Rattle.store_state.proofs.Sizes.{sized_bytes}
use Rattle.store_state.specs.Objects.{takes_bytes, with_bytes}
use Rattle.store_state.specs.Within.{IsMemorySized}
use Rattle.store_state.proofs.memories.ObjectList+MemoryObject.write.Goals as goal

pub invariant_of-self : goal.invariant_of-self
invariant_of-self c =
    keeps (λ (h : MemoryObjectParts). h.memory) c.self.inside.objects.items c.args.self.now c.self.view_is c.args.number
    c.index_mut.result.now
    c.requires c.index_mut.ensures.value c.write.new.self (takes_bytes c.args.at c.args.bytes.now)
    (with_bytes c.args.at c.args.bytes.now)
    c.write.result (record { tested = c.write.ensures.range; changed = c.write.ensures.written; refused = c.write.ensures.refused }) IsMemorySized
    (sized_bytes c.args.at c.args.bytes.now c.index_mut.result.now.memory) c.self.invariant

pub returns : goal.returns
returns c =
    changes (λ (h : MemoryObjectParts). h.memory) c.self.inside.objects.items c.args.self.now c.self.view_is c.args.number
    c.index_mut.result.now
    c.requires c.index_mut.ensures.value c.write.new.self (takes_bytes c.args.at c.args.bytes.now)
    (with_bytes c.args.at c.args.bytes.now)
    c.write.result (record { tested = c.write.ensures.range; changed = c.write.ensures.written; refused = c.write.ensures.refused })
