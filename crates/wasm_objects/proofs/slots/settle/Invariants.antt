use Rattle.std.proofs.Common.{◌≡◌, ◌++◌, map, take, drop}
use Rattle.wasm_objects.specs.Slots.{settled}
use Rattle.wasm_objects.proofs.slots.settle.Given as goal

abbrev pub invariant-loop-slot : goal.invariant-loop-slot
invariant-loop-slot l =
    l.slots ≡ map (settled l.init l.functions) (take l.slot-index l.initial.slots) ++ drop l.slot-index l.initial.slots
