-- The fuel that a step is told of is what the tank tells.
use Rattle.std.proofs.Common.{◌≡◌, Bool, true, false, refl}
use Rattle.std.specs.Prelude.{ℤ, Ok, Err, if◌then◌else◌}
use Rattle.wasm_meter.specs.Fuel.{fuel_left}
use Rattle.wasm_values.specs.declared.refusals.Refusal.TheVariants.{FuelNotConfigured}

pub fuel_told : (fuel : ℤ) (consumes : Bool) → consumes ≡ true →
    Ok (fuel_left fuel) ≡ (if consumes then Ok (fuel_left fuel) else Err FuelNotConfigured)
fuel_told fuel true e = refl
fuel_told fuel false e = absurd (cc e)
