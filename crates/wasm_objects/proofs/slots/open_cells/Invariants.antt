use Rattle.std.proofs.Common.{◌≡◌, ◌++◌, map, take}
use Rattle.std.specs.Prelude.{vec_capacity}
use Rattle.wasm_objects.specs.Slots.{cell_slot}
use Rattle.wasm_objects.proofs.slots.open_cells.Given as goal

abbrev pub invariant-loop-cell : goal.invariant-loop-cell
invariant-loop-cell l =
    (l.slots.items ≡ l.initial.slots.items ++ map cell_slot (take l.cell-index l.image))
    × (vec_capacity l.slots ≡ vec_capacity l.initial.slots)
