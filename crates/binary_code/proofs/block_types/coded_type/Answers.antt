use Rattle.std.proofs.Common.{[], ◌∷◌}
use Rattle.binary_code.proofs.ResultLemmas.{coded_by, block_of_value, due_is, non_null_due, nullable_due, read_in_then, results_none}
use Rattle.binary_code.proofs.block_types.coded_type.Goals as goal

pub returns-then-code-eq64 : goal.returns-then-code-eq64
returns-then-code-eq64 c =
    coded_by c.args.context c.args.types.now c.at-at.result c.in_ok-code.code c.args.input.now c.byte.new.input _ c.plain_number.result c.plain_number.new.self
    c.at-at.ensures c.in_ok-code.ensures
    (read_in_then _ _ [] c.byte.new.input c.plain_number.result _ _ (results_none _ _ c.in_ok-code.code _ c.if-code-eq64.true) (c.plain_number.ensures c.byte.new.input))

pub returns-in-99 : goal.returns-in-99
returns-in-99 c =
    coded_by c.args.context c.args.types.now c.at-at.result c.in_ok-code.code c.args.input.now c.byte.new.input _ c.referenced.result c.referenced.new.types
    c.at-at.ensures c.in_ok-code.ensures
    (due_is _ _ c.referenced.result _ _ (nullable_due c.args.context c.args.types.now c.at-at.result c.in_ok-code.code c.byte.new.input c.in-99.is) c.referenced.ensures)

pub returns-in-100 : goal.returns-in-100
returns-in-100 c =
    coded_by c.args.context c.args.types.now c.at-at.result c.in_ok-code.code c.args.input.now c.byte.new.input _ c.referenced-in-100.result c.referenced-in-100.new.types
    c.at-at.ensures c.in_ok-code.ensures
    (due_is _ _ c.referenced-in-100.result _ _ (non_null_due c.args.context c.args.types.now c.at-at.result c.in_ok-code.code c.byte.new.input c.in-100.is) c.referenced-in-100.ensures)

pub returns-in_default : goal.returns-in_default
returns-in_default c =
    coded_by c.args.context c.args.types.now c.at-at.result c.in_ok-code.code c.args.input.now c.byte.new.input _ c.valued.result c.valued.new.types
    c.at-at.ensures c.in_ok-code.ensures
    (due_is _ _ c.valued.result _ _ (block_of_value c.args.context c.args.types.now c.at-at.result c.in_ok-code.code c.byte.new.input c.if-code-eq64.false) c.valued.ensures)
