use Rattle.std.proofs.Common.{◌∙◌, ap}
use Rattle.wasm_objects.specs.Slots.{slot_of, settled}
use Rattle.wasm_objects.proofs.SlotLemmas.{next_of}
use Rattle.wasm_objects.proofs.slots.settle.Goals as goal

pub loop-slot-preserved : goal.loop-slot-preserved
loop-slot-preserved c =
    next_of (settled c.args.init c.args.functions.now) c.args.slots.now c.loop-slot.slots c.loop-slot.slot-index _ _
    c.loop-slot.invariant (c.of.ensures ∙ ap slot_of c.reference.ensures) c.loop-slot-test.true
