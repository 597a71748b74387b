use Rattle.spec_machine.specs.Commands.{operation}
use Rattle.spec_machine.specs.declared.operation.Op.TheVariants as op
use Rattle.wasm_host.specs.Scopes.{scope_of}
use Rattle.spec_machine.specs.declared.reply.Reply.TheVariants.{Object}
use Rattle.wasm_values.specs.declared.externals.Extern.TheVariants as x
use Rattle.spec_machine.specs.TableCalls.{table_new}
use Rattle.wasm_values.specs.Values.{val_ref}
use Rattle.wasm_call.proofs.ReplyLemmas.{unnamed, named_answered, named_short, performed_short}
use Rattle.wasm_call.proofs.GrowthReplyLemmas.{growth_refused, growth_answered, growth_granted, growth_turns, growth_short, growth_acted}
use Rattle.wasm_call.proofs.tables.new_table.Goals as goal

pub returns-in_default : goal.returns-in_default
returns-in_default g c = unnamed _ c.args.limit _ _ _ c.in_default.ensures c.requires.fresh

pub returns-in-Err : goal.returns-in-Err
returns-in-Err g c = named_answered _ c.args.limit _ _ _ _ _ _ c.in-Some.ensures
    (growth_refused _ c.args.limit (λ h. Object (x.Table h)) _ _ _ (rw c.ref_-given.ensures at c.in-Err.ensures) c.requires.fresh)

pub returns-in-Err-begin : goal.returns-in-Err-begin
returns-in-Err-begin g c = named_answered _ c.args.limit _ _ _ _ _ _ c.in-Some.ensures
    (growth_answered _ c.args.limit (λ h. Object (x.Table h)) _ _ _ _ _ (rw c.ref_-given.ensures at c.in-Ok.ensures)
    c.in-Err-begin.ensures)

pub make_table-requires : goal.make_table-requires
make_table-requires g c = rw c.ref_-given.ensures
    (growth_granted _ c.args.limit (λ h. Object (x.Table h)) (λ m. table_new m c.args.ty.now (val_ref c.in-Some.val)) _ _ _
    (rw c.ref_-given.ensures at c.in-Ok.ensures) c.in_default-begin.ensures)

pub returns-in_err-table : goal.returns-in_err-table
returns-in_err-table g c =
    performed_short _ c.args.limit (operation c.args.store.now.machine (scope_of c.args.scope.now)
    (op.TableNew c.args.ty.now c.args.init.now)) _ _ _ c.from_residual.ensures.0
    (named_short _ c.args.limit _ _ _ _ _ c.in-Some.ensures
    (growth_short _ c.args.limit (λ h. Object (x.Table h)) (λ m. table_new m c.args.ty.now (val_ref c.in-Some.val)) _ _ _ _ _
    (rw c.ref_-given.ensures at c.in-Ok.ensures) c.in_default-begin.ensures
    (rw c.ref_-given.ensures at c.in_err-table.ensures.acts) c.in_err-table.ensures.rest))

pub count_act-requires : goal.count_act-requires
count_act-requires g c = growth_turns _ c.args.limit (λ h. Object (x.Table h)) _ _ _ _ _ c.in-Ok.ensures c.in_default-begin.ensures
    c.in_ok-table.ensures.rest

pub returns : goal.returns
returns g c = named_answered _ c.args.limit _ _ _ _ _ _ c.in-Some.ensures
    (growth_acted _ c.args.limit (λ h. Object (x.Table h)) (λ m. table_new m c.args.ty.now (val_ref c.in-Some.val)) _ _ _ _ _ _
    (rw c.ref_-given.ensures at c.in-Ok.ensures) c.in_default-begin.ensures
    (rw c.ref_-given.ensures at c.in_ok-table.ensures.acts) c.in_ok-table.ensures.rest c.count_act.ensures)
