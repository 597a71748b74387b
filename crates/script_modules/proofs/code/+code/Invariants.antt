use Rattle.std.proofs.Common.{◌≡◌, ◌≤◌, ◌+◌, ◌*◌, drop, ◌++◌, Some, length}
use Rattle.serde_json.specs.View.{items_view}
use Rattle.script_json.specs.Fields.{◌>>=◌}
use Rattle.script_modules.specs.Code.{instrs_of, code_to}
use Rattle.script_modules.proofs.code.+code.Given as goal

abbrev pub decreases-code_within : goal.decreases-code_within
decreases-code_within l = 8 * l.depth

abbrev pub decreases-block : goal.decreases-block
decreases-block l = 8 * l.depth + 1

abbrev pub decreases-one_block : goal.decreases-one_block
decreases-one_block l = 8 * l.depth + 2

abbrev pub decreases-choice : goal.decreases-choice
decreases-choice l = 8 * l.depth + 2

abbrev pub decreases-structured : goal.decreases-structured
decreases-structured l = 8 * l.depth + 3

abbrev pub decreases-instruction : goal.decreases-instruction
decreases-instruction l = 8 * l.depth + 4

abbrev pub decreases-instructions : goal.decreases-instructions
decreases-instructions l = 8 * l.depth + 5

abbrev pub invariant-instructions-loop-item : goal.invariant-instructions-loop-item
invariant-instructions-loop-item l = record {
  reads : instrs_of (code_to l.depth) (items_view l.item-items) l.fn.parts ≡ (instrs_of (code_to l.depth) (items_view (drop l.item-index l.item-items)) l.parts >>= (λ rest. Some (l.instrs.items ++ rest.0, rest.1)));
  grows : length l.fn.parts.blocks ≤ length l.parts.blocks;
}
