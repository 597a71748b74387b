-- Objects that an instance names under an index, by what they lead to. This project's own.
use Rattle.std.specs.Prelude.{◌≡◌, ◌<◌, ℕ, length, slice_get, Option, Some, None}
use Rattle.wasm_types.specs.Memories.{Memory}
use Rattle.wasm_objects.specs.Tables.{Table}
use Rattle.spec_machine.specs.Machine.{Machine}
use Rattle.spec_execution.specs.Operands as on
use Rattle.spec_execution.specs.Straight.{Effect, Sticks}
use Rattle.store_state.specs.Machine.{run_machine}
use Rattle.store_state.specs.Parts.{Names, ProgramParts, HeldParts}

-- a memory of the store, by its number: whatever follows has it, or nothing fits
pub record HasMemory (program : ProgramParts) (held : HeldParts) (instance k n : ℕ) : Type 0 where
  pub names : Names
  pub instance_is : slice_get program.instances instance ≡ Some names
  pub memory : Memory
  pub found : slice_get held.memories n ≡ Some memory
  pub within : n < length held.memories
  pub leads : (base : Machine) (go : ℕ → Memory → Effect) →
      on.on_memory Sticks (run_machine base program held) instance k go ≡ go n memory

abbrev pub FindsMemory : ProgramParts → HeldParts → ℕ → ℕ → Option ℕ → Type 0
FindsMemory program held instance k None =
    (base : Machine) (go : ℕ → Memory → Effect) → on.on_memory Sticks (run_machine base program held) instance k go
    ≡ Sticks
FindsMemory program held instance k (Some n) = HasMemory program held instance k n

pub record HasTable (program : ProgramParts) (held : HeldParts) (instance k n : ℕ) : Type 0 where
  pub names : Names
  pub instance_is : slice_get program.instances instance ≡ Some names
  pub table : Table
  pub found : slice_get held.tables n ≡ Some table
  pub within : n < length held.tables
  pub leads : (base : Machine) (go : ℕ → Table → Effect) →
      on.on_table Sticks (run_machine base program held) instance k go ≡ go n table

abbrev pub FindsTable : ProgramParts → HeldParts → ℕ → ℕ → Option ℕ → Type 0
FindsTable program held instance k None =
    (base : Machine) (go : ℕ → Table → Effect) → on.on_table Sticks (run_machine base program held) instance k go ≡ Sticks
FindsTable program held instance k (Some n) = HasTable program held instance k n
