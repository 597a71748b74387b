-- Memories and tables of a size that there may be.
-- WebAssembly core specification, "Execution, modules, growing tables" and "growing memories"; the range of indices
-- of tables is this project's own
use Rattle.std.specs.Prelude.{ℕ, ◌≡◌, ◌≤◌, ◌*◌, ◌/◌, ◌⊎◌, length}
use Rattle.wasm_meter.specs.Growths.{Growth}
use Rattle.wasm_types.specs.Memories.{Memory}
use Rattle.wasm_types.specs.MemoryTypes.{MemoryParts, page_size}
use Rattle.wasm_objects.specs.Tables.{Table}
use Rattle.spec_machine.specs.Growth.{memory_range, table_range}

-- so many bytes are whole pages, within the range of indices
pub record IsSize (ty : MemoryParts) (bytes : ℕ) : Type 0 where
  pub whole : bytes ≡ bytes / page_size ty * page_size ty
  pub in_range : bytes ≤ memory_range ty

abbrev pub IsMemorySized : Memory → Type 0
IsMemorySized x = IsSize x.ty (length x.bytes)

abbrev pub IsTableSized : Table → Type 0
IsTableSized x = length x.elements ≤ table_range

-- a growth asks for nothing more, or for no more than the range of indices
abbrev pub MayGrow : ℕ → Growth → Type 0
MayGrow range g = (g.current ≡ g.desired) ⊎ (g.desired ≤ range)
