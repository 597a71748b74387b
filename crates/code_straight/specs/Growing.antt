-- The growth of a memory or of a table by an instruction: what is due of it, and the act. This project's own; the
-- growth itself is that of the WebAssembly core specification, "Execution, instructions", memory.grow and
-- table.grow.
use Rattle.std.specs.Prelude.{ℕ, ◌*◌, ◌≡◌, ◌≢◌, Bool, List, length, set, slice_get, Some}
use Rattle.wasm_types.specs.Memories.{Memory}
use Rattle.wasm_types.specs.MemoryTypes.{page_size}
use Rattle.wasm_syntax.specs.declared.instr.Instr.{Instr}
use Rattle.wasm_objects.specs.Growth.{longer_memory, longer_table}
use Rattle.wasm_objects.specs.Tables.{Table}
use Rattle.wasm_objects.specs.declared.raw.RawVal.{RawVal}
use Rattle.spec_machine.specs.Changes.{set_memory, set_table}
use Rattle.spec_machine.specs.Growth.{Plan, plan, growth_rule, memory_range, table_range, memory_growing, table_growing, pages}
use Rattle.spec_machine.specs.Machine.{Machine}
use Rattle.spec_execution.specs.Bodies.{memory_grow, table_grow, grow}
use Rattle.spec_execution.specs.Entering.{Frame, Run, Exec}
use Rattle.spec_execution.specs.Outcomes.{World, Outcome, Over, Stuck, State, state}
use Rattle.store_state.specs.Machine.{run_machine}
use Rattle.store_state.specs.Parts.{ProgramParts, HeldParts}
use Rattle.store_state.specs.Growing.{says}
use Rattle.code_straight.specs.declared.growing.MemoryGrowth.{MemoryGrowth}
use Rattle.code_straight.specs.declared.growing.TableGrowth.{TableGrowth}
use Rattle.store_state.specs.declared.growth.GrowthRule.TheVariants as said

-- what code of an instance does by an instruction of growth, on these operands: in each store of these objects,
-- whatever is run behind it
abbrev pub Grower : Type 0
Grower = Exec → Frame → ℕ → List Instr → State → Outcome

abbrev pub Does : Grower → ProgramParts → HeldParts → ℕ → ℕ → List RawVal →
    (Exec → Frame → List Instr → World → List RawVal → Outcome) → Type 0
Does grower program held instance k operands due =
    (base : Machine) (f : Exec) (fr : Frame) (is : List Instr) (w : World) (locals : List RawVal) →
    fr.instance ≡ instance → w.machine ≡ run_machine base program held →
    grower f fr k is (state w locals operands) ≡ due f fr is w locals

-- nothing is due of it
abbrev pub FitsNone : Grower → ProgramParts → HeldParts → ℕ → ℕ → List RawVal → Type 0
FitsNone grower program held instance k operands =
    Does grower program held instance k operands (λ f fr is w locals. Over Stuck w)

-- the plan of a growth in a store
abbrev pub memory_plan : Machine → Memory → MemoryGrowth → Plan ℕ
memory_plan m x g =
    plan (memory_range x.ty) (memory_growing x.ty g.before g.delta)
    (set_memory m g.memory (longer_memory x (g.delta * page_size x.ty))) g.before

abbrev pub table_plan : Machine → Table → TableGrowth → Plan ℕ
table_plan m x g =
    plan table_range (table_growing x.ty g.before g.delta)
    (set_table m g.table (longer_table x g.delta g.value)) g.before

-- a growth of what is held, with what the rule says of it, where there is a limiter or none
pub record IsMemoryGrowth (held : HeldParts) (limited : Bool) (g : MemoryGrowth) (x : Memory) : Type 0 where
  pub found : slice_get held.memories g.memory ≡ Some x
  pub before : pages x ≡ g.before
  pub rule : g.rule ≡ says (growth_rule limited (memory_range x.ty) (memory_growing x.ty g.before g.delta))
      (memory_growing x.ty g.before g.delta)

pub record IsTableGrowth (held : HeldParts) (limited : Bool) (g : TableGrowth) (x : Table) : Type 0 where
  pub found : slice_get held.tables g.table ≡ Some x
  pub before : length x.elements ≡ g.before
  pub rule : g.rule ≡ says (growth_rule limited table_range (table_growing x.ty g.before g.delta))
      (table_growing x.ty g.before g.delta)

-- the growth that is due
abbrev pub DueMemory : ProgramParts → HeldParts → ℕ → ℕ → Bool → List RawVal → MemoryGrowth → List RawVal → Type 0
DueMemory program held instance k limited operands g rest =
    (x : Memory) × IsMemoryGrowth held limited g x
    × Does memory_grow program held instance k operands
    (λ f fr is w locals. grow f (Run fr is) (state w locals rest) (memory_plan w.machine x g))

abbrev pub DueTable : ProgramParts → HeldParts → ℕ → ℕ → Bool → List RawVal → TableGrowth → List RawVal → Type 0
DueTable program held instance k limited operands g rest =
    (x : Table) × IsTableGrowth held limited g x
    × Does table_grow program held instance k operands
    (λ f fr is w locals. grow f (Run fr is) (state w locals rest) (table_plan w.machine x g))

-- a growth of what is held, which has not failed by the rule
abbrev pub MayGrowMemory : HeldParts → MemoryGrowth → Type 0
MayGrowMemory held g =
    (limited : Bool) × (x : Memory) × IsMemoryGrowth held limited g x × (g.rule ≢ said.Fails)

abbrev pub MayGrowTable : HeldParts → TableGrowth → Type 0
MayGrowTable held g =
    (limited : Bool) × (x : Table) × IsTableGrowth held limited g x × (g.rule ≢ said.Fails)

-- what is held once the object has grown
abbrev pub grown_memory : HeldParts → Memory → MemoryGrowth → HeldParts
grown_memory held x g =
    record held { memories = set held.memories g.memory (longer_memory x (g.delta * page_size x.ty)) }

abbrev pub grown_table : HeldParts → Table → TableGrowth → HeldParts
grown_table held x g = record held { tables = set held.tables g.table (longer_table x g.delta g.value) }
