use Rattle.std.proofs.Common.{◌≡◌, ◌++◌, map, take}
use Rattle.std.specs.Prelude.{vec_capacity}
use Rattle.wasm_objects.specs.Slots.{slot_of}
use Rattle.wasm_objects.proofs.slots.references.Given as goal

abbrev pub invariant-loop-item : goal.invariant-loop-item
invariant-loop-item l =
    (l.slots.items ≡ l.initial.slots.items ++ map slot_of (take l.item-index l.items))
    × (vec_capacity l.slots ≡ vec_capacity l.initial.slots)
