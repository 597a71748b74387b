use Rattle.std.proofs.Common.{◌≤◌, ◌≡◌, ℕ, ◌+◌, ◌-◌, ◌*◌, [], length}
use Rattle.code_stack.specs.Layers.{means}
use Rattle.code_leaps.specs.Leading.{Leads}
use Rattle.code_leaps.specs.Leaps.{placed}
use Rattle.code_leaps.specs.Rounds.{IsFree}
use Rattle.code_leaps.specs.Running.{ruled, charged}
use Rattle.code_stack.specs.declared.rules.Rules.{Rules}
use Rattle.code_leaps.proofs.leaps.perform_leaps.Given as goal

abbrev pub invariant-leaps : goal.invariant-leaps
invariant-leaps l = record {
  within : l.left ≤ l.turns;
  still : l.left ≡ l.turns → l.code ≡ l.initial.code;
  height : l.height ≤ length l.rows.operands.last;
  fuel : l.held.fuel ≡ l.initial.held.fuel;
  leads : (rules : Rules) (owed : ℕ) → rules.frames ≡ l.frames → IsFree rules l.initial.held.fuel owed (l.turns - l.floor) →
      Leads (ruled l.program rules)
      (means (placed l.initial.activation l.initial.layers l.initial.rows.operands l.initial.rows.locals.before
      l.initial.code l.initial.height l.initial.rows.locals.last))
      (charged rules.consumes_fuel l.initial.held owed) (l.turns - l.left) []
      (means (placed l.activation l.layers l.rows.operands l.rows.locals.before l.code l.height l.rows.locals.last))
      (charged rules.consumes_fuel l.held (owed + (l.turns - l.left)));
}

abbrev pub decreases-leaps : goal.decreases-leaps
decreases-leaps l = 2 * l.left + length l.layers
