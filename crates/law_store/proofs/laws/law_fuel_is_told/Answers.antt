use Rattle.law_store.proofs.Meters.{filled_fuel_is_told, interval_keeps_fuel}
use Rattle.law_store.proofs.laws.law_fuel_is_told.Goals as goal

pub returns-clause-filled : goal.returns-clause-filled
returns-clause-filled c = filled_fuel_is_told

pub returns-clause-interval : goal.returns-clause-interval
returns-clause-interval c = interval_keeps_fuel
