use Rattle.std.proofs.Common.{ap, ◌∙◌}
use Rattle.spec_execution.specs.Straight as straight
use Rattle.store_state.specs.Machine.{run_machine}
use Rattle.code_straight.proofs.instructions.act.Goals as goal

pub returns-in-Drop-clause-acts : goal.returns-in-Drop-clause-acts
returns-in-Drop-clause-acts c = λ base.
    ap (λ x. straight.act c.args.instance (run_machine base c.args.program.now c.args.held.now) c.args.values.now.locals
    x c.args.values.now.operands) c.in-Drop.is
    ∙ c.drop_value.ensures.acts c.args.instance (run_machine base c.args.program.now c.args.held.now)

pub returns-in-Select-clause-acts : goal.returns-in-Select-clause-acts
returns-in-Select-clause-acts c = λ base.
    ap (λ x. straight.act c.args.instance (run_machine base c.args.program.now c.args.held.now) c.args.values.now.locals
    x c.args.values.now.operands) c.in-Select.is
    ∙ c.select.ensures.acts c.args.instance (run_machine base c.args.program.now c.args.held.now)

pub returns-in-LocalGet-clause-acts : goal.returns-in-LocalGet-clause-acts
returns-in-LocalGet-clause-acts c = λ base.
    ap (λ x. straight.act c.args.instance (run_machine base c.args.program.now c.args.held.now) c.args.values.now.locals
    x c.args.values.now.operands) c.in-LocalGet.is
    ∙ c.local_get.ensures.acts c.args.instance (run_machine base c.args.program.now c.args.held.now)

pub returns-in-LocalSet-clause-acts : goal.returns-in-LocalSet-clause-acts
returns-in-LocalSet-clause-acts c = λ base.
    ap (λ x. straight.act c.args.instance (run_machine base c.args.program.now c.args.held.now) c.args.values.now.locals
    x c.args.values.now.operands) c.in-LocalSet.is
    ∙ c.local_set.ensures.acts c.args.instance (run_machine base c.args.program.now c.args.held.now)

pub returns-in-LocalTee-clause-acts : goal.returns-in-LocalTee-clause-acts
returns-in-LocalTee-clause-acts c = λ base.
    ap (λ x. straight.act c.args.instance (run_machine base c.args.program.now c.args.held.now) c.args.values.now.locals
    x c.args.values.now.operands) c.in-LocalTee.is
    ∙ c.local_tee.ensures.acts c.args.instance (run_machine base c.args.program.now c.args.held.now)

pub returns-in-Unary-clause-acts : goal.returns-in-Unary-clause-acts
returns-in-Unary-clause-acts c = λ base.
    ap (λ x. straight.act c.args.instance (run_machine base c.args.program.now c.args.held.now) c.args.values.now.locals
    x c.args.values.now.operands) c.in-Unary.is
    ∙ c.unary.ensures.acts c.args.instance (run_machine base c.args.program.now c.args.held.now)

pub returns-in-Binary-clause-acts : goal.returns-in-Binary-clause-acts
returns-in-Binary-clause-acts c = λ base.
    ap (λ x. straight.act c.args.instance (run_machine base c.args.program.now c.args.held.now) c.args.values.now.locals
    x c.args.values.now.operands) c.in-Binary.is
    ∙ c.binary.ensures.acts c.args.instance (run_machine base c.args.program.now c.args.held.now)

pub returns-in-RefIsNull-clause-acts : goal.returns-in-RefIsNull-clause-acts
returns-in-RefIsNull-clause-acts c = λ base.
    ap (λ x. straight.act c.args.instance (run_machine base c.args.program.now c.args.held.now) c.args.values.now.locals
    x c.args.values.now.operands) c.in-RefIsNull.is
    ∙ c.ref_is_null.ensures.acts c.args.instance (run_machine base c.args.program.now c.args.held.now)

pub returns-in-RefFunc-clause-acts : goal.returns-in-RefFunc-clause-acts
returns-in-RefFunc-clause-acts c = λ base.
    ap (λ x. straight.act c.args.instance (run_machine base c.args.program.now c.args.held.now) c.args.values.now.locals
    x c.args.values.now.operands) c.in-RefFunc.is
    ∙ c.ref_func.ensures.acts c.args.held.now base

pub returns-in-DataDrop-clause-acts : goal.returns-in-DataDrop-clause-acts
returns-in-DataDrop-clause-acts c = λ base.
    ap (λ x. straight.act c.args.instance (run_machine base c.args.program.now c.args.held.now) c.args.values.now.locals
    x c.args.values.now.operands) c.in-DataDrop.is
    ∙ c.data_drop.ensures.acts c.args.values.now base

pub returns-in-ElemDrop-clause-acts : goal.returns-in-ElemDrop-clause-acts
returns-in-ElemDrop-clause-acts c = λ base.
    ap (λ x. straight.act c.args.instance (run_machine base c.args.program.now c.args.held.now) c.args.values.now.locals
    x c.args.values.now.operands) c.in-ElemDrop.is
    ∙ c.elem_drop.ensures.acts c.args.values.now base
