-- The turn of an instruction that asks nothing, and what turns may come to owe. This project's own.
use Rattle.std.specs.Prelude.{ℕ, ℤ, ◌≡◌, ◌≤◌, ◌+◌, ◌*◌, ◌^◌, Bool, true, false, []}
use Rattle.spec_machine.specs.Machine.{debt}
use Rattle.store_state.specs.Tanks.{most_owed}
use Rattle.code_stack.specs.Layers.{Configuration}
use Rattle.code_leaps.specs.Leading.{Doing, Setting}
use Rattle.code_leaps.specs.Turns.{TurnsBy}
use Rattle.code_stack.specs.declared.rules.Rules.{Rules}
use Rattle.code_stack.specs.declared.steps.Step.{Step}
use Rattle.code_stack.specs.declared.steps.Step.TheVariants as step
use Rattle.code_stack.specs.declared.turns.Ending.TheVariants as ending
use Rattle.code_stack.specs.declared.turns.Turn.{Turn}
use Rattle.code_stack.specs.declared.turns.Turn.TheVariants as turn

-- what an instruction comes to whose step is this
abbrev pub turn_of : Step → Turn
turn_of step.Goes = turn.Goes
turn_of step.Checks = turn.Checks
turn_of (step.Fails f) = turn.Ends (ending.Fails f)
turn_of step.Done = turn.Ends ending.Done
turn_of (step.Calls call) = turn.Ends (ending.Calls call)

-- whether the check before a function or a round of a loop is due behind it
abbrev pub is_checked : Turn → Bool
is_checked turn.Checks = true
is_checked _ = false

pub record Spends {H : Type 0} (g : Setting H) (due : Doing) (h : H) (left : ℕ) (what : Turn) (spent : ℕ)
    (new : Configuration) (h' : H) : Type 0 where
  pub within : spent ≤ left
  pub turns : TurnsBy g due h left spent [] new h' what

-- the most that one turn takes: a bulk form of the greatest length does
abbrev pub most_cost : ℕ
most_cost = 2 ^ 32

-- where fuel is consumed, what so many turns may come to owe can be charged: with what is owed before, and what was
-- consumed and is not taken yet
abbrev pub IsPayable : Rules → ℤ → ℕ → ℕ → Type 0
IsPayable rules fuel owed turns = rules.consumes_fuel ≡ true → debt fuel + (owed + turns * most_cost) ≤ most_owed
