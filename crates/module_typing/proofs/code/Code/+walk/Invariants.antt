use Rattle.std.proofs.Common.{◌≡◌, ◌+◌, ◌*◌, length}
use Rattle.wasm_syntax.specs.Typing.{type_list, typing_to}
use Rattle.module_typing.specs.Imported.{seen}
use Rattle.module_typing.specs.Code.{in_code}
use Rattle.module_typing.specs.Operands.{types_in}
use Rattle.module_typing.proofs.code.Code.+walk.Given as goal

abbrev pub decreases-type_code : goal.decreases-type_code
decreases-type_code l = 8 * l.depth

abbrev pub decreases-inside : goal.decreases-inside
decreases-inside l = 8 * l.depth + 1

abbrev pub decreases-type_block : goal.decreases-type_block
decreases-type_block l = 8 * l.depth + 2

abbrev pub decreases-type_loop : goal.decreases-type_loop
decreases-type_loop l = 8 * l.depth + 2

abbrev pub decreases-type_if : goal.decreases-type_if
decreases-type_if l = 8 * l.depth + 4

abbrev pub decreases-type_branches : goal.decreases-type_branches
decreases-type_branches l = 8 * l.depth + 3

abbrev pub decreases-type_both : goal.decreases-type_both
decreases-type_both l = 8 * l.depth + 2

abbrev pub decreases-type_one : goal.decreases-type_one
decreases-type_one l = 8 * l.depth + 5

abbrev pub decreases-type_list : goal.decreases-type_list
decreases-type_list l = 8 * l.depth + 6

abbrev pub invariant-type_list-loop-instr : goal.invariant-type_list-loop-instr
invariant-type_list-loop-instr l = record {
  typed :
      type_list (in_code l.self) (typing_to (in_code l.self) l.depth) (seen l.fn.labels) (types_in l.self l.operands) l.rest
      ≡ type_list (in_code l.self) (typing_to (in_code l.self) l.depth) (seen l.fn.labels) (types_in l.self l.fn.operands) l.instrs;
  labels : l.labels ≡ l.fn.labels;
}

abbrev pub decreases-type_list-loop-instr : goal.decreases-type_list-loop-instr
decreases-type_list-loop-instr l = length l.rest
