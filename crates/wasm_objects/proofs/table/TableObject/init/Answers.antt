use Rattle.std.proofs.Common.{map, refl}
use Rattle.wasm_types.specs.Ranges.{range_of}
use Rattle.wasm_objects.specs.Slots.{functions_of, slot_of}
use Rattle.wasm_objects.proofs.TableLemmas.{range_fits, kept, settles, elements, places}
use Rattle.wasm_objects.proofs.table.TableObject.init.Goals as goal

pub invariant_of-self : goal.invariant_of-self
invariant_of-self c = (
  kept c.self.inside.ty c.self.inside.init (functions_of c.self.inside.functions) c.self.inside.slots.items
      c.deref_mut.result.now c.copy_into.new.slots c.deref_mut.ensures.value _ c.self.inside.filled c.self.inside.slots.len
      c.args.self.now c.self.view_is c.args.dst c.args.len
      (range_of c.args.src c.args.len c.args.segment.now) (map slot_of (range_of c.args.src c.args.len c.args.segment.now))
      refl c.copy_into.result
      (range_fits c.args.dst c.args.src c.args.len c.args.segment.now c.deref_mut.result.now
      c.copy_into.result c.copy_into.ensures.range)
      c.copy_into.ensures.copied c.copy_into.ensures.refused c.self.inside.slots.ok.0 c.self.invariant.0,
  λ e. settles c.self.inside.ty c.self.inside.init (functions_of c.self.inside.functions) c.self.inside.slots.items
      c.deref_mut.result.now c.copy_into.new.slots c.deref_mut.ensures.value _ c.self.inside.filled c.self.inside.slots.len
      c.args.self.now c.self.view_is c.args.dst c.args.len
      (range_of c.args.src c.args.len c.args.segment.now) (map slot_of (range_of c.args.src c.args.len c.args.segment.now))
      refl c.copy_into.result
      (range_fits c.args.dst c.args.src c.args.len c.args.segment.now c.deref_mut.result.now
      c.copy_into.result c.copy_into.ensures.range)
      c.copy_into.ensures.copied c.copy_into.ensures.refused c.self.inside.slots.ok.0 (c.self.invariant.1 e),
)

pub returns-clause-copied : goal.returns-clause-copied
returns-clause-copied c =
    elements c.self.inside.ty c.self.inside.init (functions_of c.self.inside.functions) c.self.inside.slots.items
    c.deref_mut.result.now c.copy_into.new.slots c.deref_mut.ensures.value _ c.self.inside.filled c.self.inside.slots.len
    c.args.self.now c.self.view_is c.args.dst c.args.len
    (range_of c.args.src c.args.len c.args.segment.now) (map slot_of (range_of c.args.src c.args.len c.args.segment.now))
    refl c.copy_into.result
    (range_fits c.args.dst c.args.src c.args.len c.args.segment.now c.deref_mut.result.now
    c.copy_into.result c.copy_into.ensures.range)
    c.copy_into.ensures.copied c.copy_into.ensures.refused c.self.inside.slots.ok.0

pub returns-clause-places : goal.returns-clause-places
returns-clause-places c =
    places c.self.inside.ty c.self.inside.init (functions_of c.self.inside.functions) c.self.inside.slots.items
    c.deref_mut.result.now c.copy_into.new.slots c.deref_mut.ensures.value _ c.self.inside.filled c.self.inside.slots.len
    c.args.self.now c.self.view_is c.args.dst c.args.len
    (range_of c.args.src c.args.len c.args.segment.now) (map slot_of (range_of c.args.src c.args.len c.args.segment.now))
    refl c.copy_into.result
    (range_fits c.args.dst c.args.src c.args.len c.args.segment.now c.deref_mut.result.now
    c.copy_into.result c.copy_into.ensures.range)
    c.copy_into.ensures.copied c.copy_into.ensures.refused c.self.inside.slots.ok.0
