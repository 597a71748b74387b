-- The calls on the fuel and the deadline of a store. This project's own, as the wasmtime crate has them.
use Rattle.std.specs.Prelude.{ℕ, pos, Bool, true, not, nat_eq, Option, Some, None, Result, Ok}
use Rattle.wasm_meter.specs.Deadlines.{deadline_at}
use Rattle.wasm_meter.specs.Fuel.{fuel_left}
use Rattle.wasm_values.specs.declared.refusals.Refusal.{Refusal}
use Rattle.wasm_values.specs.declared.refusals.Refusal.TheVariants.{FuelNotConfigured, FuelInterval}
use Rattle.spec_machine.specs.Changes.{set_fuel, set_deadline}
use Rattle.spec_machine.specs.Machine.{Machine}
use Rattle.spec_machine.specs.Steps.{◌>>=◌, unless}

-- what is left; where more was consumed than there was, nothing is
abbrev pub get_fuel : Machine → Result ℕ Refusal
get_fuel m = unless FuelNotConfigured m.engine.consumes_fuel >>= (λ _. Ok (fuel_left m.fuel))

-- just so much
abbrev pub fill_fuel : Machine → ℕ → Result Machine Refusal
fill_fuel m fuel = unless FuelNotConfigured m.engine.consumes_fuel >>= (λ _. Ok (set_fuel m (pos fuel)))

-- an interval has a length
abbrev pub is_interval : Option ℕ → Bool
is_interval None = true
is_interval (Some length) = not (nat_eq length 0)

-- another interval: what was consumed beyond what there was is forgotten
abbrev pub yield_interval : Machine → Option ℕ → Result Machine Refusal
yield_interval m interval = do
  _ ← unless FuelNotConfigured m.engine.consumes_fuel
  _ ← unless FuelInterval (is_interval interval)
  Ok (set_fuel m (pos (fuel_left m.fuel)))

-- so many ticks past a reading of the epoch
abbrev pub move_deadline : Machine → ℕ → ℕ → Machine
move_deadline m ticks reading = set_deadline m (deadline_at reading ticks)
