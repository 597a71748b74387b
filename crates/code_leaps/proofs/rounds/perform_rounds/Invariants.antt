use Rattle.std.proofs.Common.{◌≤◌, ◌≡◌, ℕ, ◌+◌, ◌-◌, [], length}
use Rattle.code_straight.specs.Frames.{topmost}
use Rattle.code_leaps.specs.Bursts.{Surrounding, standing}
use Rattle.code_stack.specs.Layers.{means}
use Rattle.code_leaps.specs.Leading.{Leads}
use Rattle.code_leaps.specs.Rounds.{Loops, IsFree}
use Rattle.code_leaps.specs.Running.{ruled, charged}
use Rattle.code_stack.specs.declared.rules.Rules.{Rules}
use Rattle.code_leaps.proofs.rounds.perform_rounds.Given as goal

abbrev pub invariant-rounds : goal.invariant-rounds
invariant-rounds l = record {
  within : l.left ≤ l.turns;
  still : l.left ≡ l.turns → l.code ≡ l.initial.code;
  height : l.height ≤ length l.operands;
  long : length l.operands ≡ length l.initial.operands;
  many : length l.locals ≡ length l.initial.locals;
  fuel : l.held.fuel ≡ l.initial.held.fuel;
  leads : (rules : Rules) (owed : ℕ) (s : Surrounding) → s.activation.instance ≡ l.activation.instance → Loops s l.again →
      IsFree rules l.initial.held.fuel owed (l.turns - l.floor) →
      Leads (ruled l.program rules)
      (means (standing s l.initial.code (topmost l.initial.height l.initial.operands) l.initial.locals))
      (charged rules.consumes_fuel l.initial.held owed) (l.turns - l.left) []
      (means (standing s l.code (topmost l.height l.operands) l.locals))
      (charged rules.consumes_fuel l.held (owed + (l.turns - l.left)));
}

abbrev pub decreases-rounds : goal.decreases-rounds
decreases-rounds l = l.left
