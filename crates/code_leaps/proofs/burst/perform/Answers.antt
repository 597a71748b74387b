use Rattle.wasm_syntax.specs.declared.instr.Instr.TheVariants as i
use Rattle.code_leaps.proofs.BurstLemmas.{acts_in}
use Rattle.code_leaps.proofs.burst.perform.Goals as goal

pub returns-in-LocalGet-clause-acts : goal.returns-in-LocalGet-clause-acts
returns-in-LocalGet-clause-acts c =
    acts_in c.args.instr.now (i.LocalGet c.in-LocalGet.index) c.in-LocalGet.is c.args.height c.args.operands.now c.args.locals.now c.local_get.result
    c.local_get.new.operands c.args.locals.now c.local_get.ensures.acts c.args.program.now c.args.activation.now.instance c.args.held.now

pub returns-in-LocalSet-clause-acts : goal.returns-in-LocalSet-clause-acts
returns-in-LocalSet-clause-acts c =
    acts_in c.args.instr.now (i.LocalSet c.in-LocalSet.index) c.in-LocalSet.is c.args.height c.args.operands.now c.args.locals.now c.local_set.result
    c.args.operands.now c.local_set.new.locals c.local_set.ensures.acts c.args.program.now c.args.activation.now.instance c.args.held.now

pub returns-in-LocalTee-clause-acts : goal.returns-in-LocalTee-clause-acts
returns-in-LocalTee-clause-acts c =
    acts_in c.args.instr.now (i.LocalTee c.in-LocalTee.index) c.in-LocalTee.is c.args.height c.args.operands.now c.args.locals.now c.local_tee.result
    c.args.operands.now c.local_tee.new.locals c.local_tee.ensures.acts c.args.program.now c.args.activation.now.instance c.args.held.now

pub returns-in-Drop-clause-acts : goal.returns-in-Drop-clause-acts
returns-in-Drop-clause-acts c =
    acts_in c.args.instr.now (i.Drop) c.in-Drop.is c.args.height c.args.operands.now c.args.locals.now c.drop_value.result
    c.args.operands.now c.args.locals.now (c.drop_value.ensures.acts c.args.locals.now) c.args.program.now c.args.activation.now.instance c.args.held.now

pub returns-in-Select-clause-acts : goal.returns-in-Select-clause-acts
returns-in-Select-clause-acts c =
    acts_in c.args.instr.now (i.Select) c.in-Select.is c.args.height c.args.operands.now c.args.locals.now c.select.result
    c.select.new.operands c.args.locals.now (c.select.ensures.acts c.args.locals.now) c.args.program.now c.args.activation.now.instance c.args.held.now

pub returns-in-Unary-clause-acts : goal.returns-in-Unary-clause-acts
returns-in-Unary-clause-acts c =
    acts_in c.args.instr.now (i.Unary c.in-Unary.op) c.in-Unary.is c.args.height c.args.operands.now c.args.locals.now c.unary.result
    c.unary.new.operands c.args.locals.now (c.unary.ensures.acts c.args.locals.now) c.args.program.now c.args.activation.now.instance c.args.held.now

pub returns-in-Binary-clause-acts : goal.returns-in-Binary-clause-acts
returns-in-Binary-clause-acts c =
    acts_in c.args.instr.now (i.Binary c.in-Binary.op) c.in-Binary.is c.args.height c.args.operands.now c.args.locals.now c.binary.result
    c.binary.new.operands c.args.locals.now (c.binary.ensures.acts c.args.locals.now) c.args.program.now c.args.activation.now.instance c.args.held.now
