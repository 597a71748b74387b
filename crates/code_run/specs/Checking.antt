-- The check before a function and before each round of a loop, by its parts: fuel, the epoch, the behaviour at the
-- deadline, and a new deadline. This project's own.
use Rattle.std.specs.Prelude.{◌≡◌, ℕ, ◌≤◌, List}
use Rattle.spec_execution.specs.Askings.{Question, Answer, Asking, Chain}
use Rattle.spec_execution.specs.Outcomes.{World, Outcome, Over}
use Rattle.code_leaps.specs.Leading.{Doing, Setting, Leads, Stops}
use Rattle.code_stack.specs.Steps.{end_of}
use Rattle.code_run.specs.declared.checks.Verdict.{Verdict}
use Rattle.code_run.specs.declared.checks.Verdict.TheVariants as check
use Rattle.code_run.specs.declared.checks.Checked.{Checked}

-- a part of a check, before what is done once it is passed
abbrev pub Part : Type 0
Part = World → Doing → Outcome

-- so many turns of those that are left, with these questions and answers, lead to what is done behind it, or to an end
module _ {H : Type 0} (g : Setting H) (part : Part) (go : Doing) (h : H) (left spent : ℕ) (heard : List Asking) (h' : H)
  where
    abbrev pub ChecksBy : Verdict → Type 0
    ChecksBy check.Passes = Leads g (λ w. part w go) h spent heard go h'
    ChecksBy (check.Fails f) = Leads g (λ w. part w go) h spent heard (λ w. Over (end_of f) w) h'
    ChecksBy check.Limit = Stops g (λ w. part w go) h spent heard h' × (spent ≡ left)

-- whatever is done behind it
pub record Checks {H W : Type 0} (g : Setting H) (moves : W → Question → Answer → W → Type 0) (part : Part) (h : H)
    (t : W) (left : ℕ) (c : Checked) (h' : H) (t' : W) : Type 0 where
  pub within : c.spent ≤ left
  pub heard : List Asking
  pub chain : Chain moves t heard t'
  pub by : (go : Doing) → ChecksBy g part go h left c.spent heard h' c.what
