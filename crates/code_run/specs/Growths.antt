-- The growth of a memory or of a table by an instruction: what is due of it, and the act. This project's own; the growth
-- itself is that of the WebAssembly core specification, "Execution, instructions", memory.grow and table.grow.
use Rattle.std.specs.Prelude.{ℕ, ◌≢◌, Bool, List}
use Rattle.wasm_types.specs.Memories.{Memory}
use Rattle.wasm_objects.specs.Tables.{Table}
use Rattle.wasm_objects.specs.declared.raw.RawVal.{RawVal}
use Rattle.spec_machine.specs.Growth.{Plan}
use Rattle.spec_machine.specs.Machine.{Machine}
use Rattle.spec_execution.specs.Bodies.{memory_grow, table_grow}
use Rattle.store_state.specs.Parts.{ProgramParts, HeldParts}
use Rattle.store_state.specs.declared.growth.GrowthRule.{GrowthRule}
use Rattle.store_state.specs.declared.growth.GrowthRule.TheVariants as said
use Rattle.code_straight.specs.Growing.{memory_plan, table_plan, FitsNone, DueMemory, DueTable, IsMemoryGrowth, IsTableGrowth, grown_memory, grown_table}
use Rattle.code_run.specs.declared.growths.Growth.{Growth}
use Rattle.code_run.specs.declared.growths.Growth.TheVariants as growth
use Rattle.code_run.specs.declared.spins.Growing.{Growing}
use Rattle.code_run.specs.declared.spins.Growing.TheVariants as growing

-- what the rule says of it
abbrev pub rule_in : Growth → GrowthRule
rule_in (growth.Memory g) = g.rule
rule_in (growth.Table g) = g.rule

-- the size before, in pages or elements
abbrev pub before_in : Growth → ℕ
before_in (growth.Memory g) = g.before
before_in (growth.Table g) = g.before

-- a growth of what is held, with what the rule says of it, where there is a limiter or none
abbrev pub IsGrowth : HeldParts → Bool → Growth → Type 0
IsGrowth held limited (growth.Memory g) = (x : Memory) × IsMemoryGrowth held limited g x
IsGrowth held limited (growth.Table g) = (x : Table) × IsTableGrowth held limited g x

-- the same, which has not failed by the rule
abbrev pub MayGrow : HeldParts → Growth → Type 0
MayGrow held g = (limited : Bool) × IsGrowth held limited g × (rule_in g ≢ said.Fails)

-- its plan in a store, and what is held once the object has grown
abbrev pub plan_in : (held : HeldParts) (limited : Bool) (g : Growth) → IsGrowth held limited g → Machine → Plan ℕ
plan_in held limited (growth.Memory g) x m = memory_plan m x.0 g
plan_in held limited (growth.Table g) x m = table_plan m x.0 g

abbrev pub grown_by : (held : HeldParts) (limited : Bool) (g : Growth) → IsGrowth held limited g → HeldParts
grown_by held limited (growth.Memory g) x = grown_memory held x.0 g
grown_by held limited (growth.Table g) x = grown_table held x.0 g

-- the growth that is due of an instruction on these operands, or none
abbrev pub FitsNoGrowth : Growing → ProgramParts → HeldParts → ℕ → List RawVal → Type 0
FitsNoGrowth (growing.Memory k) program held instance operands = FitsNone memory_grow program held instance k operands
FitsNoGrowth (growing.Table k) program held instance operands = FitsNone table_grow program held instance k operands

abbrev pub Due : Growing → ProgramParts → HeldParts → ℕ → Bool → List RawVal → Growth → List RawVal → Type 0
Due (growing.Memory k) program held instance limited operands (growth.Memory g) rest =
    DueMemory program held instance k limited operands g rest
Due (growing.Table k) program held instance limited operands (growth.Table g) rest =
    DueTable program held instance k limited operands g rest
Due x program held instance limited operands g rest = ⊥
