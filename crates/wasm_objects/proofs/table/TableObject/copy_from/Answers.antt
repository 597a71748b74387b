use Rattle.std.proofs.Common.{map, ap, ◌∙◌}
use Rattle.wasm_types.specs.Ranges.{range_of}
use Rattle.wasm_objects.specs.Slots.{functions_of, references_in, slot_of}
use Rattle.wasm_objects.specs.Growth.{TableObjectParts}
use Rattle.wasm_objects.proofs.TableLemmas.{copied_fits, kept, settles, elements, places}
use Rattle.wasm_objects.proofs.table.TableObject.copy_from.Goals as goal

pub invariant_of-self : goal.invariant_of-self
invariant_of-self c = (
  kept c.self.inside.ty c.self.inside.init (functions_of c.self.inside.functions) c.self.inside.slots.items
      c.deref_mut.result.now c.copy_slots_from.new.slots c.deref_mut.ensures.value _ c.self.inside.filled c.self.inside.slots.len
      c.args.self.now c.self.view_is c.args.dst c.args.len
      (range_of c.args.src c.args.len c.args.other.now.table.elements) (map slot_of (range_of c.args.src c.args.len (references_in c.other.inside.init (functions_of c.other.inside.functions) c.deref.result.now)))
      (ap (λ l. map slot_of (range_of c.args.src c.args.len (references_in c.other.inside.init (functions_of c.other.inside.functions) l))) c.deref.ensures.value
      ∙ ap (λ (o : TableObjectParts). map slot_of (range_of c.args.src c.args.len o.table.elements)) c.other.view_is) c.copy_slots_from.result
      (copied_fits c.args.dst c.args.src c.args.len c.other.inside.init (functions_of c.other.inside.functions) c.deref.result.now
      c.args.other.now.table.elements (ap (references_in c.other.inside.init (functions_of c.other.inside.functions)) c.deref.ensures.value
      ∙ ap (λ (o : TableObjectParts). o.table.elements) c.other.view_is) c.deref_mut.result.now
      c.copy_slots_from.result c.copy_slots_from.ensures.range)
      c.copy_slots_from.ensures.copied c.copy_slots_from.ensures.refused c.self.inside.slots.ok.0 c.self.invariant.0,
  λ e. settles c.self.inside.ty c.self.inside.init (functions_of c.self.inside.functions) c.self.inside.slots.items
      c.deref_mut.result.now c.copy_slots_from.new.slots c.deref_mut.ensures.value _ c.self.inside.filled c.self.inside.slots.len
      c.args.self.now c.self.view_is c.args.dst c.args.len
      (range_of c.args.src c.args.len c.args.other.now.table.elements) (map slot_of (range_of c.args.src c.args.len (references_in c.other.inside.init (functions_of c.other.inside.functions) c.deref.result.now)))
      (ap (λ l. map slot_of (range_of c.args.src c.args.len (references_in c.other.inside.init (functions_of c.other.inside.functions) l))) c.deref.ensures.value
      ∙ ap (λ (o : TableObjectParts). map slot_of (range_of c.args.src c.args.len o.table.elements)) c.other.view_is) c.copy_slots_from.result
      (copied_fits c.args.dst c.args.src c.args.len c.other.inside.init (functions_of c.other.inside.functions) c.deref.result.now
      c.args.other.now.table.elements (ap (references_in c.other.inside.init (functions_of c.other.inside.functions)) c.deref.ensures.value
      ∙ ap (λ (o : TableObjectParts). o.table.elements) c.other.view_is) c.deref_mut.result.now
      c.copy_slots_from.result c.copy_slots_from.ensures.range)
      c.copy_slots_from.ensures.copied c.copy_slots_from.ensures.refused c.self.inside.slots.ok.0 (c.self.invariant.1 e),
)

pub returns-clause-copied : goal.returns-clause-copied
returns-clause-copied c =
    elements c.self.inside.ty c.self.inside.init (functions_of c.self.inside.functions) c.self.inside.slots.items
    c.deref_mut.result.now c.copy_slots_from.new.slots c.deref_mut.ensures.value _ c.self.inside.filled c.self.inside.slots.len
    c.args.self.now c.self.view_is c.args.dst c.args.len
    (range_of c.args.src c.args.len c.args.other.now.table.elements) (map slot_of (range_of c.args.src c.args.len (references_in c.other.inside.init (functions_of c.other.inside.functions) c.deref.result.now)))
    (ap (λ l. map slot_of (range_of c.args.src c.args.len (references_in c.other.inside.init (functions_of c.other.inside.functions) l))) c.deref.ensures.value
    ∙ ap (λ (o : TableObjectParts). map slot_of (range_of c.args.src c.args.len o.table.elements)) c.other.view_is) c.copy_slots_from.result
    (copied_fits c.args.dst c.args.src c.args.len c.other.inside.init (functions_of c.other.inside.functions) c.deref.result.now
    c.args.other.now.table.elements (ap (references_in c.other.inside.init (functions_of c.other.inside.functions)) c.deref.ensures.value
    ∙ ap (λ (o : TableObjectParts). o.table.elements) c.other.view_is) c.deref_mut.result.now
    c.copy_slots_from.result c.copy_slots_from.ensures.range)
    c.copy_slots_from.ensures.copied c.copy_slots_from.ensures.refused c.self.inside.slots.ok.0

pub returns-clause-places : goal.returns-clause-places
returns-clause-places c =
    places c.self.inside.ty c.self.inside.init (functions_of c.self.inside.functions) c.self.inside.slots.items
    c.deref_mut.result.now c.copy_slots_from.new.slots c.deref_mut.ensures.value _ c.self.inside.filled c.self.inside.slots.len
    c.args.self.now c.self.view_is c.args.dst c.args.len
    (range_of c.args.src c.args.len c.args.other.now.table.elements) (map slot_of (range_of c.args.src c.args.len (references_in c.other.inside.init (functions_of c.other.inside.functions) c.deref.result.now)))
    (ap (λ l. map slot_of (range_of c.args.src c.args.len (references_in c.other.inside.init (functions_of c.other.inside.functions) l))) c.deref.ensures.value
    ∙ ap (λ (o : TableObjectParts). map slot_of (range_of c.args.src c.args.len o.table.elements)) c.other.view_is) c.copy_slots_from.result
    (copied_fits c.args.dst c.args.src c.args.len c.other.inside.init (functions_of c.other.inside.functions) c.deref.result.now
    c.args.other.now.table.elements (ap (references_in c.other.inside.init (functions_of c.other.inside.functions)) c.deref.ensures.value
    ∙ ap (λ (o : TableObjectParts). o.table.elements) c.other.view_is) c.deref_mut.result.now
    c.copy_slots_from.result c.copy_slots_from.ensures.range)
    c.copy_slots_from.ensures.copied c.copy_slots_from.ensures.refused c.self.inside.slots.ok.0
