use Rattle.std.proofs.Common.{◌≤◌, ◌≡◌, ℕ, ◌+◌, ◌-◌, List, [], length}
use Rattle.wasm_syntax.specs.declared.instr.Instr.{Instr}
use Rattle.code_straight.specs.Frames.{topmost}
use Rattle.code_leaps.specs.Bursts.{Surrounding, standing}
use Rattle.code_stack.specs.Layers.{means}
use Rattle.code_leaps.specs.Leading.{Leads}
use Rattle.code_leaps.specs.Running.{ruled, charged}
use Rattle.code_stack.specs.declared.rules.Rules.{Rules}
use Rattle.code_leaps.proofs.burst.perform_all.Given as goal

-- how many turns are left
abbrev pub left : List Instr → List Instr → ℕ → ℕ
left code rest turns = turns - (length code - length rest)

abbrev pub invariant-burst : goal.invariant-burst
invariant-burst l = record {
  shorter : length l.rest ≤ length l.initial.code;
  enough : length l.initial.code - length l.rest ≤ l.turns;
  still : left l.initial.code l.rest l.turns ≡ l.turns → l.rest ≡ l.initial.code;
  height : l.height ≤ length l.operands;
  long : length l.operands ≡ length l.initial.operands;
  many : length l.locals ≡ length l.initial.locals;
  fuel : l.held.fuel ≡ l.initial.held.fuel;
  leads : (rules : Rules) (owed : ℕ) (s : Surrounding) → s.activation.instance ≡ l.activation.instance →
      Leads (ruled l.program rules)
      (means (standing s l.initial.code (topmost l.initial.height l.initial.operands) l.initial.locals))
      (charged rules.consumes_fuel l.initial.held owed) (l.turns - left l.initial.code l.rest l.turns) []
      (means (standing s l.rest (topmost l.height l.operands) l.locals))
      (charged rules.consumes_fuel l.held (owed + (l.turns - left l.initial.code l.rest l.turns)));
}

abbrev pub decreases-burst : goal.decreases-burst
decreases-burst l = length l.rest
