-- What each part of a call needs of its store, of its turns and of what is outside. This project's own.
use Rattle.std.specs.Prelude.{◌≡◌, ℕ, ◌≤◌, ◌+◌, ◌*◌, ℤ, List, true}
use Rattle.wasm_values.specs.declared.store_id.StoreId.{StoreId}
use Rattle.spec_machine.specs.Machine.{Machine, EngineParts, debt}
use Rattle.spec_machine.specs.WellFormed.{IsWellFormed}
use Rattle.spec_execution.specs.Askings.{Asking, Chain}
use Rattle.store_state.specs.Machine.{run_machine}
use Rattle.store_state.specs.Parts.{ProgramParts, HeldParts}
use Rattle.store_state.specs.Tanks.{most_owed}
use Rattle.code_leaps.specs.Leading.{Doing, Setting, Halts}
use Rattle.code_leaps.specs.Spending.{most_cost}
use Rattle.code_run.specs.Asking.{Moving}
use Rattle.code_hosts.specs.declared.bounds.Bounds.{Bounds}
use Rattle.code_hosts.specs.Hosting.{IsOpen}

-- each store of the call is well formed with this held
abbrev pub IsFormed : ProgramParts → Bounds → StoreId → EngineParts → HeldParts → Type 0
IsFormed program bounds id engine held =
    (base : Machine) → IsOpen bounds id engine base → IsWellFormed (run_machine base program held)

-- the fuel that so many turns may charge is in range
abbrev pub IsPayable : Bounds → ℤ → ℕ → Type 0
IsPayable bounds fuel turns = bounds.rules.consumes_fuel ≡ true → debt fuel + turns * most_cost ≤ most_owed

module _ {W : Type 0} (moves : Moving W) (o : W) where
  -- what is held is so wherever the call may stop
  abbrev pub StaysFormed : Setting HeldParts → Doing → HeldParts → ℕ → (HeldParts → Type 0) → Type 0
  StaysFormed g due h turns formed =
      (spent : ℕ) (heard : List Asking) (h' : HeldParts) (o' : W) → spent ≤ turns →
      Chain moves o heard o' → Halts g due h spent heard h' → formed h'
