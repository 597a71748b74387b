-- How a host moves the deadline of a store, by a reading of the epoch, and what a limiter says of counts.
use Rattle.std.specs.Prelude.{◌≡◌, ℕ, true, ⊤, Result, Ok, Err}
use Rattle.wasm_meter.specs.declared.faults.EpochFailed.{EpochFailed}
use Rattle.wasm_values.specs.declared.refusals.Refusal.{Refusal}
use Rattle.wasm_values.specs.declared.refusals.Refusal.TheVariants.{EpochFault}
use Rattle.spec_machine.specs.FuelCalls.{move_deadline}
use Rattle.spec_machine.specs.Machine.{Machine, Numbers}

-- so many ticks past the reading; where there is none the deadline stands
abbrev pub MovesTo : ℕ → Result ℕ EpochFailed → Machine → Result ⊤ Refusal → Machine → Type 0
MovesTo ticks (Ok reading) old result new = (result ≡ Ok tt) × (new ≡ move_deadline old ticks reading)
MovesTo ticks (Err fault) old result new = (result ≡ Err EpochFault) × (new ≡ old)

-- the epoch is read once, by the relation of the source
abbrev pub MovesDeadline : {E : Type 0} → (E → Result ℕ EpochFailed → E → Type 0) → ℕ → E → E → Machine →
    Result ⊤ Refusal → Machine → Type 0
MovesDeadline readings ticks epochs epochs_after old result new =
    (answer : Result ℕ EpochFailed) × readings epochs answer epochs_after × MovesTo ticks answer old result new

-- the limiter is asked, and these are the most of what instantiation makes
abbrev pub limited : Machine → Numbers → Machine
limited m limits = record m { limits = limits; is_limited = true }
