-- What the instructions that grow a memory or a table come to, as the handle of the memory or table tells.
-- WebAssembly core specification, "Execution, memory instructions" and "Execution, table instructions"
use Rattle.std.specs.Prelude.{◌≡◌, ◌⊎◌, ℕ, ◌+◌, ◌-◌, ◌*◌, ◌^◌, ◌<◌, List, [], ◌∷◌, replicate, slice_get, Some, Ok}
use Rattle.wasm_types.specs.FunctionParts.{heap_type}
use Rattle.wasm_types.specs.Matching.{heap_top}
use Rattle.wasm_types.specs.MemoryTypes.{MemoryParts, page_size}
use Rattle.wasm_types.specs.TableTypes.{TableParts}
use Rattle.wasm_syntax.specs.declared.entities.EntityIndex.{EntityIndex}
use Rattle.wasm_syntax.specs.declared.entities.EntityIndex.TheVariants as entity
use Rattle.wasm_syntax.specs.declared.instr.Instr.{Instr}
use Rattle.wasm_syntax.specs.declared.instr.Instr.TheVariants as i
use Rattle.wasm_values.specs.declared.externals.Extern.{Extern}
use Rattle.wasm_values.specs.declared.externals.Extern.TheVariants as x
use Rattle.wasm_values.specs.declared.handles.Memory.{Memory}
use Rattle.wasm_values.specs.declared.handles.Table.{Table}
use Rattle.wasm_values.specs.declared.references.Ref.{Ref}
use Rattle.wasm_objects.specs.declared.raw.RawRef.{RawRef}
use Rattle.wasm_objects.specs.declared.raw.RawVal.{RawVal}
use Rattle.wasm_objects.specs.declared.raw.RawVal.TheVariants.{Reference}
use Rattle.spec_machine.specs.InstanceCalls.{object}
use Rattle.spec_machine.specs.Machine.{Machine, InstanceParts}
use Rattle.spec_machine.specs.MemoryCalls.{memory_ty, memory_size, memory_data_size, memory_read}
use Rattle.spec_machine.specs.TableCalls.{table_ty, table_size, table_get}
use Rattle.spec_machine.specs.Values.{ref_at}
use Rattle.spec_machine.specs.WellFormed.{IsWellFormed}
use Rattle.spec_execution.specs.Bodies.{instruction, exec}
use Rattle.spec_execution.specs.Entering.{Frame, Run, Exec}
use Rattle.spec_execution.specs.Operands.{integer, integer_in}
use Rattle.spec_execution.specs.Outcomes.{World, State, state, Outcome, Values}

-- ---- one instruction, and the rest of the code

-- nothing is run of what follows, so that the first instruction comes to what it leaves
abbrev pub nothing_more : Exec
nothing_more code s = Values s

-- what an instruction by itself comes to
abbrev pub by_itself : Frame → Instr → State → Outcome
by_itself fr first s = instruction nothing_more fr first [] s

-- and then the rest, where it did not end the run
abbrev pub and_then : Outcome → (State → Outcome) → Outcome
and_then (Values s) rest = rest s
and_then o rest = o

-- code that begins with this instruction comes to what it comes to by itself, and then the rest
abbrev pub ComesFirst : Instr → Type 0
ComesFirst first =
    (fr : Frame) (is : List Instr) (s : State) →
    exec (Run fr (first ∷ is)) s ≡ and_then (by_itself fr first s) (exec (Run fr is))

-- ---- what it leaves

-- the object that the code of an instance names by an index
pub record Names (m : Machine) (instance : ℕ) (index : EntityIndex) (o : Extern) : Type 0 where
  pub parts : InstanceParts
  pub found : slice_get m.instances instance ≡ Some parts
  pub named : object m parts index ≡ Some o

-- a growth that succeeded left its answer on top of the operands below, and the object longer; one that failed left -1
-- there, and a store of which nothing changed but the fuel
abbrev pub Grows : (ℕ → Machine → Type 0) → Machine → List RawVal → State → Type 0
Grows IsLonger m below after =
    ((n : ℕ) × (after.operands ≡ integer 32 n ∷ below) × IsLonger n after.world.machine)
    ⊎ ((after.operands ≡ integer 32 (2 ^ 32 - 1) ∷ below)
    × (after.world.machine ≡ record m { fuel = after.world.machine.fuel }))

-- a memory that had so many pages has so many more; what was read of it before is read, and behind that are zeros
pub record IsLongerMemory (m : Machine) (h : Memory) (delta n : ℕ) (after : Machine) : Type 0 where
  pub before : memory_size m h ≡ Ok n
  pub size : memory_size after h ≡ Ok (n + delta)
  pub kept : (at len : ℕ) (bytes : List ℕ) → memory_read m h at len ≡ Ok bytes → memory_read after h at len ≡ Ok bytes
  pub zeros : (ty : MemoryParts) (bytes : ℕ) → memory_ty m h ≡ Ok ty → memory_data_size m h ≡ Ok bytes →
      memory_read after h bytes (delta * page_size ty) ≡ Ok (replicate (delta * page_size ty) 0)

-- a reference of code, as a host handles it that has it from a table of this type
abbrev pub handled : Machine → TableParts → RawRef → Ref
handled m ty r = ref_at m.id (heap_top (heap_type ty.element)) r

-- a table that had so many elements has so many more; what was in a place before is there, and behind that is the given
-- reference
pub record IsLongerTable (m : Machine) (h : Table) (delta : ℕ) (r : RawRef) (n : ℕ) (after : Machine) : Type 0 where
  pub before : table_size m h ≡ Ok n
  pub size : table_size after h ≡ Ok (n + delta)
  pub kept : (at : ℕ) → at < n → table_get after h at ≡ table_get m h at
  pub given : (ty : TableParts) (k : ℕ) → table_ty m h ≡ Ok ty → k < delta →
      table_get after h (n + k) ≡ Ok (Some (handled m ty r))

-- ---- the laws

-- `memory.grow` by so many pages
abbrev pub MemoriesGrow : Type 0
MemoriesGrow =
    (fr : Frame) (k : ℕ) (h : Memory) (w : World) (locals below : List RawVal) (by : RawVal) (delta : ℕ) (after : State) →
    IsWellFormed w.machine → Names w.machine fr.instance (entity.Memory k) (x.Memory h) →
    integer_in 32 by ≡ Some delta → by_itself fr (i.MemoryGrow k) (state w locals (by ∷ below)) ≡ Values after →
    Grows (IsLongerMemory w.machine h delta) w.machine below after

-- `table.grow` by so many elements, each this reference
abbrev pub TablesGrow : Type 0
TablesGrow =
    (fr : Frame) (k : ℕ) (h : Table) (w : World) (locals below : List RawVal) (by : RawVal) (delta : ℕ) (r : RawRef)
    (after : State) → Names w.machine fr.instance (entity.Table k) (x.Table h) → integer_in 32 by ≡ Some delta →
    by_itself fr (i.TableGrow k) (state w locals (by ∷ Reference r ∷ below)) ≡ Values after →
    Grows (IsLongerTable w.machine h delta r) w.machine below after

-- each of them comes first, and then the rest
abbrev pub MemoryGrowthsComeFirst : Type 0
MemoryGrowthsComeFirst = (k : ℕ) → ComesFirst (i.MemoryGrow k)

abbrev pub TableGrowthsComeFirst : Type 0
TableGrowthsComeFirst = (k : ℕ) → ComesFirst (i.TableGrow k)
