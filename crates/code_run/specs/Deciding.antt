-- A growth is decided: by its rule, or by the limiter's answer. This project's own.
use Rattle.std.specs.Prelude.{◌≡◌, ℕ, ◌+◌, ◌≤◌, List, ◌++◌}
use Rattle.spec_machine.specs.Growth as growth
use Rattle.spec_machine.specs.Growth.{Plan, plan_rule}
use Rattle.spec_machine.specs.Machine.{Machine}
use Rattle.spec_execution.specs.Askings.{Question, Answer, Asking, answers_in, Chain}
use Rattle.spec_execution.specs.Checks.{decide}
use Rattle.spec_execution.specs.Outcomes.{World, world, Outcome, Over, Stopped}
use Rattle.store_state.specs.Growing.{says}
use Rattle.store_state.specs.declared.growth.GrowthRule.{GrowthRule}
use Rattle.code_run.specs.declared.decisions.Choice.{Choice}
use Rattle.code_run.specs.declared.decisions.Choice.TheVariants as choice
use Rattle.code_run.specs.declared.decisions.Decided.{Decided}

abbrev pub choice_of : growth.Decision → Choice
choice_of growth.Granted = choice.Granted
choice_of growth.Failed = choice.Failed
choice_of growth.Faulted = choice.Faulted

-- where no turn is left for the question, the run is stopped
abbrev pub DecidesAs : Choice → Outcome → (growth.Decision → World → Outcome) → World → Type 0
DecidesAs choice.Granted o go w = o ≡ go growth.Granted w
DecidesAs choice.Failed o go w = o ≡ go growth.Failed w
DecidesAs choice.Faulted o go w = o ≡ go growth.Faulted w
DecidesAs choice.Limit o go w = w.turns ≡ 0 → o ≡ Over Stopped w

-- only then all that were left were taken
abbrev pub IsFull : Choice → ℕ → ℕ → Type 0
IsFull choice.Limit spent left = spent ≡ left
IsFull _ spent left = Unit {0}

pub record Decides {W : Type 0} (moves : W → Question → Answer → W → Type 0) (rule : GrowthRule) (t : W) (left : ℕ)
    (d : Decided) (t' : W) : Type 0 where
  pub within : d.spent ≤ left
  pub full : IsFull d.choice d.spent left
  pub heard : List Asking
  pub chain : Chain moves t heard t'
  pub by : (m : Machine) (p : Plan ℕ) → says (plan_rule m p) p.growth ≡ rule →
      (go : growth.Decision → World → Outcome) (extra : ℕ) (before : List Asking) (rest : List Answer) →
      DecidesAs d.choice (decide Over (world m (d.spent + extra) before (answers_in heard ++ rest)) p go) go
      (world m extra (before ++ heard) rest)
