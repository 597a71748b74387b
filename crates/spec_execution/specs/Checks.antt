-- Fuel, epochs and growth in the course of a run: this project's own, as the wasmtime crate has them.
use Rattle.std.specs.Prelude.{ℕ, Bool, not, ◌||◌, Ok, Err, nat_lt, if◌then◌else◌}
pub use Rattle.wasm_meter.specs.Deadlines.{deadline_at as deadline}
use Rattle.wasm_meter.specs.Fuel.{is_fuelled}
use Rattle.wasm_meter.specs.Growths.{Growth}
use Rattle.wasm_meter.specs.declared.call_hook.CallHook.{CallHook}
use Rattle.wasm_meter.specs.declared.deadline.UpdateDeadline.TheVariants as update
use Rattle.wasm_values.specs.declared.refusals.Refusal.TheVariants as refusal
use Rattle.wasm_values.specs.declared.refusals.Trap.TheVariants as trap
use Rattle.spec_machine.specs.Changes.{set_deadline}
use Rattle.spec_machine.specs.Growth.{Decision, Granted, Failed, Rule, Grows, Fails, Asks, Plan, plan_rule, answered_growth}
use Rattle.spec_machine.specs.Machine.{Machine}
use Rattle.spec_execution.specs.Askings.{Growing, Passing, Reading, Behaving, Answer, Grown, Passed, Read, Behaved}
use Rattle.spec_execution.specs.Outcomes.{World, Outcome, Values, Over, End, Trapped, Refused, Stuck, ask}

-- ---- a growth: by its rule, or by the limiter's answer

-- in anything that may end early
module _ {O : Type 0} (early : End → World → O) where
  abbrev pub by_answer : Growth → (Decision → World → O) → Answer → World → O
  by_answer g go (Grown answer) w = go (answered_growth g answer) w
  by_answer g go _ w = early Stuck w

  abbrev pub by_rule : {A : Type 0} → World → Plan A → (Decision → World → O) → Rule → O
  by_rule w p go Grows = go Granted w
  by_rule w p go Fails = go Failed w
  by_rule w p go Asks = ask early w (Growing p.growth) (by_answer p.growth go)

  abbrev pub decide : {A : Type 0} → World → Plan A → (Decision → World → O) → O
  decide w p go = by_rule w p go (plan_rule w.machine p)

-- ---- a border between host and guest code: where a hook is set it is asked, and its failure ends the run

abbrev pub passed : (World → Outcome) → Answer → World → Outcome
passed go (Passed (Ok _)) w = go w
passed go (Passed (Err fault)) w = Over (Refused refusal.HookFault) w
passed go _ w = Over Stuck w

abbrev pub pass : CallHook → World → (World → Outcome) → Outcome
pass event w go = if w.machine.is_hooked then ask Over w (Passing event) (passed go) else go w

-- behind what ended by values, a trap or a refusal; what was stopped, waits or had no memory asks nothing more
abbrev pub passing_end : CallHook → World → End → Outcome
passing_end event w (Trapped t) = pass event w (Over (Trapped t))
passing_end event w (Refused why) = pass event w (Over (Refused why))
passing_end event w e = Over e w

abbrev pub pass_behind : CallHook → Outcome → Outcome
pass_behind event (Values s) = pass event s.world (λ w. Values (record s { world = w }))
pass_behind event (Over e w) = passing_end event w e
pass_behind event o = o

-- ---- the check as a function is entered, and before each iteration of a loop; before a bulk form that of fuel alone

-- there is fuel, where the engine consumes it
abbrev pub has_fuel : Machine → Bool
has_fuel m = not m.engine.consumes_fuel || is_fuelled m.fuel

-- a new deadline past the next reading
abbrev pub renewed : (World → Outcome) → ℕ → Answer → World → Outcome
renewed go ticks (Read (Ok reading)) w =
    go (record w { machine = set_deadline w.machine (deadline reading ticks) })
renewed go ticks (Read (Err fault)) w = Over (Refused refusal.EpochFault) w
renewed go ticks _ w = Over Stuck w

abbrev pub behaved : (World → Outcome) → Answer → World → Outcome
behaved go (Behaved (Ok update.Interrupt)) w = Over (Trapped trap.Interrupt) w
behaved go (Behaved (Ok (update.Continue ticks))) w = ask Over w Reading (renewed go ticks)
behaved go (Behaved (Err fault)) w = Over (Refused refusal.EpochFault) w
behaved go _ w = Over Stuck w

-- at or past the deadline
abbrev pub at_deadline : World → (World → Outcome) → Outcome
at_deadline w go = if w.machine.is_behaving then ask Over w Behaving (behaved go) else Over (Trapped trap.Interrupt) w

abbrev pub read : (World → Outcome) → Answer → World → Outcome
read go (Read (Ok reading)) w = if nat_lt reading w.machine.deadline then go w else at_deadline w go
read go (Read (Err fault)) w = Over (Refused refusal.EpochFault) w
read go _ w = Over Stuck w

abbrev pub on_epoch : World → (World → Outcome) → Outcome
on_epoch w go = if w.machine.engine.reads_epochs then ask Over w Reading (read go) else go w

abbrev pub on_fuel : World → (World → Outcome) → Outcome
on_fuel w go = if has_fuel w.machine then go w else Over (Trapped trap.OutOfFuel) w

abbrev pub check : World → (World → Outcome) → Outcome
check w go = on_fuel w (λ v. on_epoch v go)
