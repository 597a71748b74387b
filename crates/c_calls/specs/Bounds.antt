-- The bounds of a call as C gives them. This project's own.
use Rattle.std.specs.Prelude.{ℕ, nat_eq, if◌then◌else◌, Option, Some, None}
use Rattle.binary_call.specs.declared.bounds.Bounds.{Bounds}
use Rattle.c_calls.specs.declared.bounds.CBounds.{CBounds}

abbrev pub fuel_in : CBounds → Option ℕ
fuel_in c = if nat_eq c.has_fuel 0 then None else Some c.fuel

abbrev pub bounds_in : CBounds → Bounds
bounds_in c = record { fuel = fuel_in c; turns = c.turns; pages = c.pages; elements = c.elements }
