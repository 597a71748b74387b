-- The questions of an instantiation to the limiter: each new memory, and then each new table, is to grow from nothing to
-- its minimum.
-- WebAssembly core specification, "Execution, modules, allocation"; questions and turns are this project's own
use Rattle.std.specs.Prelude.{◌≡◌, ℕ, ◌+◌, ◌≤◌, List, ◌++◌, ⊤, Result, Ok, Err}
use Rattle.wasm_types.specs.Each.{Each}
use Rattle.wasm_types.specs.MemoryTypes.{MemoryParts}
use Rattle.wasm_syntax.specs.declared.declarations.ModuleDecl.{ModuleDecl}
use Rattle.wasm_syntax.specs.declared.declarations.TableDecl.{TableDecl}
use Rattle.wasm_values.specs.declared.refusals.Refusal.{Refusal}
use Rattle.wasm_values.specs.declared.refusals.Refusal.TheVariants.{TurnLimit}
use Rattle.spec_machine.specs.Growth.{Plan}
use Rattle.spec_machine.specs.Machine.{Machine}
use Rattle.spec_execution.specs.Askings.{Question, Growing, Answer, Grown, Asking, answers_in, Chain}
use Rattle.spec_execution.specs.Checks.{decide}
use Rattle.spec_execution.specs.Instantiation.{where_granted, new_memory_plan, new_table_plan, ask_memories, ask_tables}
use Rattle.spec_execution.specs.Outcomes.{World, world, Outcome, Over, Refused, turn}
use Rattle.law_store.specs.Granted.{IsGranted}
use Rattle.store_state.specs.declared.growth.GrowthRule.{GrowthRule}
use Rattle.store_state.specs.declared.growth.GrowthRule.TheVariants as said
use Rattle.wasm_store.specs.Stores.{StoreParts}
use Rattle.wasm_call.specs.Growths.{questions}
use Rattle.wasm_call.specs.Outside.{Growths}

-- a part of an instantiation, before what follows it
abbrev pub Part : Type 0
Part = (World → Outcome) → World → Outcome

-- a growth that is planned in a store; those of memories, of tables, and all of a module
abbrev pub growing : (Machine → Plan ⊤) → Part
growing plan_in go w = decide Over w (plan_in w.machine) (where_granted go)

abbrev pub growing_memories : List MemoryParts → Part
growing_memories tys go w = ask_memories tys w go

abbrev pub growing_tables : List TableDecl → Part
growing_tables ts go w = ask_tables ts w go

abbrev pub growing_all : ModuleDecl → Part
growing_all d go w = ask_memories d.memories w (λ v. ask_tables d.tables v go)

-- the host data go so by an answer of the limiter, and nothing else is asked
abbrev pub Moves : {T : Type 0} → Growths T → T → Question → Answer → T → Type 0
Moves growths old (Growing g) (Grown answer) new = growths old g answer new
Moves growths old q a new = ⊥

-- on a store of this machine a part came to where another begins, by what the limiter was asked, a turn each, whatever
-- follows. Whatever was heard before stands before it, and whatever turns and answers are left over stay
pub record Reaches {T : Type 0} (growths : Growths T) (m : Machine) (part next : Part) (old new : StoreParts T) : Type 0
  where
    pub heard : List Asking
    pub made : ℕ
    pub counted : new.turns ≡ old.turns + made
    pub chained : Chain (Moves growths) old.host_data heard new.host_data
    pub ends : (go : World → Outcome) (left : ℕ) (before : List Asking) (rest : List Answer) →
        part go (world m (made + left) before (answers_in heard ++ rest)) ≡ next go (world m left (before ++ heard) rest)

-- what growths came to, of so many turns at most: all are granted; or a turn was due, and none was left; or one was
-- refused
abbrev pub Comes : {T : Type 0} → Growths T → Machine → Part → ℕ → StoreParts T → Result ⊤ Refusal → StoreParts T → Type 0
Comes growths m part most old (Ok _) new = Reaches growths m part (λ go. go) old new
Comes growths m part most old (Err TurnLimit) new =
    (next : Part) × (Reaches growths m part (λ go w. turn Over w (next go)) old new × (new.turns ≡ most))
Comes growths m part most old (Err why) new = Reaches growths m part (λ go w. Over (Refused why) w) old new

-- each growth of a module is granted, by the rule or by the limiter
pub record AreGranted (m : Machine) (d : ModuleDecl) : Type 0 where
  pub memories : Each d.memories (λ ty. IsGranted m (new_memory_plan m ty))
  pub tables : Each d.tables (λ (t : TableDecl). IsGranted m (new_table_plan m t.ty))

-- the turn of a question was counted, where there is one, of so many turns at most; or none was left
abbrev pub CountsQuestion : {T : Type 0} → GrowthRule → ℕ → StoreParts T → Result ⊤ Refusal → StoreParts T → Type 0
CountsQuestion rule most old (Ok _) new =
    (new ≡ record old { turns = old.turns + questions rule }) × (new.turns ≤ most)
CountsQuestion (said.Asks q) most old (Err why) new = (why ≡ TurnLimit) × ((new ≡ old) × (old.turns ≡ most))
CountsQuestion _ most old (Err why) new = ⊥
