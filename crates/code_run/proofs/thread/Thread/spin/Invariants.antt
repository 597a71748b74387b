use Rattle.std.proofs.Common.{◌≡◌, ◌≤◌, ◌+◌, ◌-◌, ℕ, []}
use Rattle.code_stack.specs.Layers.{means}
use Rattle.code_leaps.specs.Leading.{Leads}
use Rattle.code_leaps.specs.Rounds.{IsFree}
use Rattle.code_leaps.specs.Running.{ruled, charged}
use Rattle.code_run.specs.Steps.{seen}
use Rattle.code_run.proofs.thread.Thread.spin.Given as goal

abbrev pub invariant-spin : goal.invariant-spin
invariant-spin l = record {
  within : l.made ≤ l.left;
  fuel : l.held.fuel ≡ l.initial.held.fuel;
  leads : (owed : ℕ) → IsFree l.rules l.initial.held.fuel owed l.free → Leads (ruled l.program l.rules) (means (seen l.initial.self))
      (charged l.rules.consumes_fuel l.initial.held owed) l.made [] (means (seen l.self))
      (charged l.rules.consumes_fuel l.held (owed + l.made));
}

abbrev pub decreases-spin : goal.decreases-spin
decreases-spin l = l.left - l.made
