-- What makes an instance: its counts, the growths of its memories and tables from nothing, and the turn that makes it.
-- WebAssembly core specification, "Execution, modules, instantiation"; the order is this project's own
use Rattle.std.specs.Prelude.{◌≡◌, ◌⊎◌, ℕ, Bool, List, length, slice_get, Option, Some, None, ⊤, Result, Ok, Err}
use Rattle.wasm_types.specs.Each.{Each}
use Rattle.wasm_types.specs.MemoryTypes.{MemoryParts}
use Rattle.wasm_types.specs.declared.plain.Resource.{Resource}
use Rattle.wasm_syntax.specs.declared.declarations.ModuleDecl.{ModuleDecl}
use Rattle.wasm_syntax.specs.declared.declarations.TableDecl.{TableDecl}
use Rattle.wasm_values.specs.declared.externals.Extern.{Extern}
use Rattle.wasm_values.specs.declared.refusals.Refusal.{Refusal}
use Rattle.wasm_values.specs.declared.refusals.Refusal.TheVariants.{ResourceLimit}
use Rattle.spec_machine.specs.Growth.{Plan, memory_range, memory_growing, table_range, table_growing}
use Rattle.spec_machine.specs.Machine.{Machine}
use Rattle.spec_execution.specs.Allocation.{function_numbers}
use Rattle.spec_execution.specs.Instantiation.{Counted, Within, Past}
use Rattle.spec_execution.specs.Segments.{Taken, Done, OutOfRange, StuckSegment, make}
use Rattle.store_state.specs.Growing.{plan_says}
use Rattle.store_state.specs.Within.{MayGrow}
use Rattle.store_state.specs.declared.growth.GrowthRule.{GrowthRule}
use Rattle.code_straight.specs.declared.acted.Acted.{Acted}
use Rattle.code_straight.specs.declared.acted.Acted.TheVariants as acted
use Rattle.instance_parts.specs.declared.making.Ending.{Ending}
use Rattle.instance_parts.specs.declared.making.Ending.TheVariants as ending
use Rattle.instance_parts.specs.declared.making.Made.{Made}

-- ---- the counts

-- what the counts say
abbrev pub CountsAs : Counted → Result ⊤ Refusal → Machine → Type 0
CountsAs due (Ok _) new = due ≡ Within new
CountsAs due (Err why) new = (which : Resource) × ((why ≡ ResourceLimit which) × (due ≡ Past which new))

-- ---- the growths: each memory and each table grows from nothing to its minimum

-- what the rule says of a growth in each store that asks a limiter, or in each that does not
abbrev pub SaysOf : Bool → (Machine → Plan ⊤) → GrowthRule → Type 0
SaysOf limited plan_in rule = (m : Machine) → m.is_limited ≡ limited → rule ≡ plan_says m (plan_in m)

abbrev pub MemoryMayBe : MemoryParts → Type 0
MemoryMayBe ty = MayGrow (memory_range ty) (memory_growing ty 0 ty.minimum)

abbrev pub TableMayBe : TableDecl → Type 0
TableMayBe t = MayGrow table_range (table_growing t.ty 0 t.ty.minimum)

-- none passes the range of its indices
pub record AreInRange (d : ModuleDecl) : Type 0 where
  pub memories : Each d.memories MemoryMayBe
  pub tables : Each d.tables TableMayBe

-- ---- what code answers

-- what is due behind the segments, over the numbers of the functions
abbrev pub IsBehind : List ℕ → Option ℕ → Ending → Type 0
IsBehind fs start ending.Whole = start ≡ None
IsBehind fs start (ending.Starts n) = (k : ℕ) × ((start ≡ Some k) × (slice_get fs k ≡ Some n))
IsBehind fs start (ending.Trapped t) = ⊥
IsBehind fs start ending.Sticks = (k : ℕ) × ((start ≡ Some k) × (slice_get fs k ≡ None))

abbrev pub ending_of : Acted → Ending → Ending
ending_of acted.Goes behind = behind
ending_of (acted.Traps t) behind = ending.Trapped t
ending_of acted.Sticks behind = ending.Sticks

-- the turn that makes the instance came to this, and left this store
abbrev pub EndsAs : List ℕ → Option ℕ → Taken → Ending → Machine → Type 0
EndsAs fs start due (ending.Trapped t) new = due ≡ OutOfRange t new
EndsAs fs start due ending.Sticks new =
    (due ≡ StuckSegment new) ⊎ ((due ≡ Done new) × IsBehind fs start ending.Sticks)
EndsAs fs start due e new = (due ≡ Done new) × IsBehind fs start e

-- an instance was made behind those that were there
abbrev pub IsMade : ModuleDecl → List Extern → Machine → Made → Machine → Type 0
IsMade d imports m made new =
    (made.number ≡ length m.instances)
    × EndsAs (function_numbers m d imports) d.start (make m d imports) made.ending new
