-- What may be owed to a tank, and how far what was consumed of it may be beyond that. This project's own.
use Rattle.std.specs.Prelude.{ℕ, pos, ◌+◌, ◌^◌, ◌-◌, ◌≤ℤ◌}
use Rattle.spec_machine.specs.Machine.{debt}
use Rattle.wasm_meter.specs.Fuel.{TankParts, fuel_of}

-- the most that is ever owed at once
abbrev pub most_owed : ℕ
most_owed = 2 ^ 62

-- so little was consumed since the tank was last filled that as much more can be charged as may be owed beside what is
abbrev pub IsSteady : TankParts → Type 0
IsSteady t = t.consumed ≤ℤ pos (debt (fuel_of t) + (most_owed - 1))
