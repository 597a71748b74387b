-- Laws of the tank. This project's own.
use Rattle.std.specs.Prelude.{ℕ, pos, ◌≡◌}
use Rattle.wasm_meter.specs.Fuel.{TankParts, fuel_of, fuel_left, filled, refuelled, checked}

-- to be filled with so much is to have just so much
abbrev pub IsFilledExactly : Type 0
IsFilledExactly = (t : TankParts) (n : ℕ) → fuel_of (filled t n) ≡ pos n

-- to be filled again changes nothing of what is left
abbrev pub KeepsWhatIsLeft : Type 0
KeepsWhatIsLeft = (t : TankParts) → fuel_left (fuel_of (refuelled t)) ≡ fuel_left (fuel_of t)

-- a check changes nothing of the number
abbrev pub KeepsTheNumber : Type 0
KeepsTheNumber = (t : TankParts) → fuel_of (checked t) ≡ fuel_of t
