use Rattle.spec_machine.specs.Commands.{operation}
use Rattle.spec_machine.specs.declared.operation.Op.TheVariants as op
use Rattle.wasm_host.specs.Scopes.{scope_of}
use Rattle.spec_machine.specs.declared.reply.Reply.TheVariants.{Number}
use Rattle.spec_machine.specs.TableCalls.{table_grow}
use Rattle.wasm_values.specs.Values.{val_ref}
use Rattle.wasm_call.proofs.ReplyLemmas.{unnamed, named_answered, named_short, performed_short}
use Rattle.wasm_call.proofs.GrowthReplyLemmas.{growth_refused, growth_answered, growth_granted, growth_turns, growth_short, growth_acted}
use Rattle.wasm_call.proofs.tables.grow_table.Goals as goal

pub returns-in_default : goal.returns-in_default
returns-in_default g c = unnamed _ c.args.limit _ _ _ c.in_default.ensures c.requires.fresh

pub returns-in_default-operand_value : goal.returns-in_default-operand_value
returns-in_default-operand_value g c = named_answered _ c.args.limit _ _ _ _ _ _ c.in-Some.ensures
    (unnamed _ c.args.limit _ _ _ c.in_default-operand_value.ensures c.requires.fresh)

pub returns-in-Err : goal.returns-in-Err
returns-in-Err g c = named_answered _ c.args.limit _ _ _ _ _ _ c.in-Some.ensures
    (named_answered _ c.args.limit _ _ _ _ _ _ c.in-Some-operand_value.ensures
    (growth_refused _ c.args.limit Number _ _ _ (rw c.ref_-given.ensures at c.in-Err.ensures) c.requires.fresh))

pub returns-in-Err-begin : goal.returns-in-Err-begin
returns-in-Err-begin g c = named_answered _ c.args.limit _ _ _ _ _ _ c.in-Some.ensures
    (named_answered _ c.args.limit _ _ _ _ _ _ c.in-Some-operand_value.ensures
    (growth_answered _ c.args.limit Number _ _ _ _ _ (rw c.ref_-given.ensures at c.in-Ok.ensures) c.in-Err-begin.ensures))

pub table_grow-requires : goal.table_grow-requires
table_grow-requires g c = rw c.ref_-given.ensures
    (growth_granted _ c.args.limit Number (λ m. table_grow m c.in-Some.table c.args.delta (val_ref c.in-Some-operand_value.val)) _
    _ _ (rw c.ref_-given.ensures at c.in-Ok.ensures) c.in_default-begin.ensures)

pub returns-in_err-size : goal.returns-in_err-size
returns-in_err-size g c = performed_short _ c.args.limit
    (operation c.args.store.now.machine (scope_of c.args.scope.now)
    (op.TableGrow c.args.table c.args.delta c.args.value.now)) _ _ _ c.from_residual.ensures.0
    (named_short _ c.args.limit _ _ _ _ _ c.in-Some.ensures
    (named_short _ c.args.limit _ _ _ _ _ c.in-Some-operand_value.ensures
    (growth_short _ c.args.limit Number (λ m. table_grow m c.in-Some.table c.args.delta (val_ref c.in-Some-operand_value.val)) _ _
    _ _ _ (rw c.ref_-given.ensures at c.in-Ok.ensures) c.in_default-begin.ensures
    (rw c.ref_-given.ensures at c.in_err-size.ensures.acts) c.in_err-size.ensures.rest)))

pub count_act-requires : goal.count_act-requires
count_act-requires g c = growth_turns _ c.args.limit Number _ _ _ _ _ c.in-Ok.ensures c.in_default-begin.ensures
    c.in_ok-size.ensures.rest

pub returns : goal.returns
returns g c = named_answered _ c.args.limit _ _ _ _ _ _ c.in-Some.ensures
    (named_answered _ c.args.limit _ _ _ _ _ _ c.in-Some-operand_value.ensures
    (growth_acted _ c.args.limit Number (λ m. table_grow m c.in-Some.table c.args.delta (val_ref c.in-Some-operand_value.val)) _ _
    _ _ _ _ (rw c.ref_-given.ensures at c.in-Ok.ensures) c.in_default-begin.ensures
    (rw c.ref_-given.ensures at c.in_ok-size.ensures.acts) c.in_ok-size.ensures.rest c.count_act.ensures))
