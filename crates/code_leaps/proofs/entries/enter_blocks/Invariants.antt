use Rattle.std.proofs.Common.{◌≤◌, ◌≡◌, ℕ, ◌+◌, ◌-◌, List, [], length}
use Rattle.wasm_objects.specs.declared.raw.RawVal.{RawVal}
use Rattle.store_state.specs.Parts.{ProgramParts, HeldParts}
use Rattle.code_stack.specs.Layers.{means}
use Rattle.code_leaps.specs.Leading.{Leads}
use Rattle.code_leaps.specs.Leaps.{placed}
use Rattle.code_leaps.specs.Running.{ruled, charged}
use Rattle.code_stack.specs.declared.rules.Rules.{Rules}
use Rattle.code_leaps.proofs.entries.enter_blocks.Given as goal

abbrev pub invariant-nested : goal.invariant-nested
invariant-nested l = record {
  within : l.left ≤ l.turns;
  still : l.left ≡ l.turns → l.code ≡ l.initial.code;
  height : l.height ≤ length l.operands.last;
  few : length l.layers + l.left ≤ length l.initial.layers + l.turns;
  enters : (program : ProgramParts) (rules : Rules) (owed : ℕ) (held : HeldParts) (further : List (List RawVal))
      (locals : List RawVal) →
      Leads (ruled program rules)
      (means (placed l.activation l.initial.layers l.initial.operands further l.initial.code l.initial.height locals))
      (charged rules.consumes_fuel held owed) (l.turns - l.left) []
      (means (placed l.activation l.layers l.operands further l.code l.height locals))
      (charged rules.consumes_fuel held (owed + (l.turns - l.left)));
}

abbrev pub decreases-nested : goal.decreases-nested
decreases-nested l = l.left
