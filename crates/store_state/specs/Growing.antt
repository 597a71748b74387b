-- How a memory or a table grows: what the rule says, the question to the limiter, and the act.
use Rattle.std.specs.Prelude.{◌≡◌, ℕ, ⊤, Bool, length, Result, Ok, Err}
use Rattle.wasm_meter.specs.Growths.{Growth, Growing, Memory, Table}
use Rattle.wasm_types.specs.Memories.{Memory as StoredMemory}
use Rattle.wasm_types.specs.declared.faults.OutOfMemory.{OutOfMemory as NoMemory}
use Rattle.wasm_values.specs.declared.refusals.Refusal.{Refusal}
use Rattle.wasm_values.specs.declared.refusals.Refusal.TheVariants.{GrowFailed, LimiterFault}
use Rattle.wasm_objects.specs.Tables.{Table as StoredTable}
use Rattle.spec_machine.specs.Growth.{Rule, Grows, Fails, Asks, Decision, Granted, Failed, Faulted, Plan, plan_rule, growth_rule, memory_range, memory_growing, pages, table_range, table_growing}
use Rattle.spec_machine.specs.Machine.{Machine}
use Rattle.spec_machine.specs.Steps.{◌>>=◌}
use Rattle.law_store.specs.Granted.{IsGranted}
use Rattle.store_state.specs.declared.growth.Growable.{Growable}
use Rattle.store_state.specs.declared.growth.Growable.TheVariants as growable
use Rattle.store_state.specs.declared.growth.GrowthQuestion.{GrowthQuestion}
use Rattle.store_state.specs.declared.growth.GrowthRule.{GrowthRule}
use Rattle.store_state.specs.declared.growth.GrowthRule.TheVariants as said

-- a question as the limiter is asked it, and as code holds it
abbrev pub growing_of : Growable → Growing
growing_of growable.Memory = Memory
growing_of growable.Table = Table

abbrev pub growable_of : Growing → Growable
growable_of Memory = growable.Memory
growable_of Table = growable.Table

abbrev pub growth_of : GrowthQuestion → Growth
growth_of q = record { object = growing_of q.object; current = q.current; desired = q.desired; maximum = q.maximum }

abbrev pub question_of : Growth → GrowthQuestion
question_of g = record { object = growable_of g.object; current = g.current; desired = g.desired; maximum = g.maximum }

-- what the rule says of a growth, as code holds it
abbrev pub says : Rule → Growth → GrowthRule
says Grows g = said.Grows
says Fails g = said.Fails
says Asks g = said.Asks (question_of g)

abbrev pub plan_says : {A : Type 0} → Machine → Plan A → GrowthRule
plan_says m p = says (plan_rule m p) p.growth

abbrev pub due_says : {A : Type 0} → Machine → Result (Plan A) Refusal → Result GrowthRule Refusal
due_says m due = due >>= (λ p. Ok (plan_says m p))

-- what the rule says of a memory that is to have so many more pages, of a table that is to have so many more elements
abbrev pub memory_says : Bool → StoredMemory → ℕ → GrowthRule
memory_says limited x delta =
    let g = memory_growing x.ty (pages x) delta in says (growth_rule limited (memory_range x.ty) g) g

abbrev pub table_says : Bool → StoredTable → ℕ → GrowthRule
table_says limited x delta =
    let g = table_growing x.ty (length x.elements) delta in says (growth_rule limited table_range g) g

-- what follows from a decision
abbrev pub decided : Decision → Result ⊤ Refusal
decided Granted = Ok tt
decided Failed = Err GrowFailed
decided Faulted = Err LimiterFault

-- the growth that is due, and it is granted: by the rule, or by the limiter's yes where it is to be asked
abbrev pub IsDue : {A : Type 0} → Machine → Result (Plan A) Refusal → Type 0
IsDue m (Ok p) = IsGranted m p
IsDue m (Err why) = ⊥

-- the act of a growth, or want of memory, which changes nothing
abbrev pub ActsOn : {A : Type 0} → Plan A → Machine → Result A NoMemory → Machine → Type 0
ActsOn p old (Ok a) new = (a ≡ p.gives) × (new ≡ p.after)
ActsOn p old (Err none) new = new ≡ old

-- the act of the growth that is due
abbrev pub Acts : {A : Type 0} → Result (Plan A) Refusal → Machine → Result A NoMemory → Machine → Type 0
Acts {A} due old result new = (p : Plan A) → due ≡ Ok p → ActsOn p old result new
