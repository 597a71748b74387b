use Rattle.std.proofs.Common.{replicate, sym, ap, ◌∙◌}
use Rattle.wasm_objects.specs.Slots.{functions_of, slot_of}
use Rattle.wasm_objects.proofs.SlotLemmas.{map-replicate}
use Rattle.wasm_objects.proofs.TableLemmas.{fill_fits, kept, settles, elements, places}
use Rattle.wasm_objects.proofs.table.TableObject.fill.Goals as goal

pub invariant_of-self : goal.invariant_of-self
invariant_of-self c = (
  kept c.self.inside.ty c.self.inside.init (functions_of c.self.inside.functions) c.self.inside.slots.items
      c.deref_mut.result.now c.fill.new.items c.deref_mut.ensures.value _ c.self.inside.filled c.self.inside.slots.len
      c.args.self.now c.self.view_is c.args.at c.args.len
      (replicate c.args.len c.args.value) (replicate c.args.len c.of.result)
      (ap (replicate c.args.len) c.of.ensures ∙ sym (map-replicate slot_of c.args.len c.args.value)) c.fill.result
      (fill_fits c.args.at c.args.len c.args.value c.deref_mut.result.now c.fill.result c.fill.ensures.range)
      c.fill.ensures.filled c.fill.ensures.refused c.self.inside.slots.ok.0 c.self.invariant.0,
  λ e. settles c.self.inside.ty c.self.inside.init (functions_of c.self.inside.functions) c.self.inside.slots.items
      c.deref_mut.result.now c.fill.new.items c.deref_mut.ensures.value _ c.self.inside.filled c.self.inside.slots.len
      c.args.self.now c.self.view_is c.args.at c.args.len
      (replicate c.args.len c.args.value) (replicate c.args.len c.of.result)
      (ap (replicate c.args.len) c.of.ensures ∙ sym (map-replicate slot_of c.args.len c.args.value)) c.fill.result
      (fill_fits c.args.at c.args.len c.args.value c.deref_mut.result.now c.fill.result c.fill.ensures.range)
      c.fill.ensures.filled c.fill.ensures.refused c.self.inside.slots.ok.0 (c.self.invariant.1 e),
)

pub returns-clause-filled : goal.returns-clause-filled
returns-clause-filled c =
    elements c.self.inside.ty c.self.inside.init (functions_of c.self.inside.functions) c.self.inside.slots.items
    c.deref_mut.result.now c.fill.new.items c.deref_mut.ensures.value _ c.self.inside.filled c.self.inside.slots.len
    c.args.self.now c.self.view_is c.args.at c.args.len
    (replicate c.args.len c.args.value) (replicate c.args.len c.of.result)
    (ap (replicate c.args.len) c.of.ensures ∙ sym (map-replicate slot_of c.args.len c.args.value)) c.fill.result
    (fill_fits c.args.at c.args.len c.args.value c.deref_mut.result.now c.fill.result c.fill.ensures.range)
    c.fill.ensures.filled c.fill.ensures.refused c.self.inside.slots.ok.0

pub returns-clause-places : goal.returns-clause-places
returns-clause-places c =
    places c.self.inside.ty c.self.inside.init (functions_of c.self.inside.functions) c.self.inside.slots.items
    c.deref_mut.result.now c.fill.new.items c.deref_mut.ensures.value _ c.self.inside.filled c.self.inside.slots.len
    c.args.self.now c.self.view_is c.args.at c.args.len
    (replicate c.args.len c.args.value) (replicate c.args.len c.of.result)
    (ap (replicate c.args.len) c.of.ensures ∙ sym (map-replicate slot_of c.args.len c.args.value)) c.fill.result
    (fill_fits c.args.at c.args.len c.args.value c.deref_mut.result.now c.fill.result c.fill.ensures.range)
    c.fill.ensures.filled c.fill.ensures.refused c.self.inside.slots.ok.0
