pub mod ExportLemmas
pub mod FuelLemmas
pub mod ViewLemmas
