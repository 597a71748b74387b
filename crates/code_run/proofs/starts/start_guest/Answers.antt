use Rattle.std.proofs.Common.{◌≡◌, ℕ, suc, ◌++◌, length, refl, ap, ◌∙◌, arith, true}
use Rattle.wasm_types.specs.FunctionParts.{results}
use Rattle.spec_execution.specs.Entering.{begun_locals}
use Rattle.code_stack.specs.Values.{ValuesParts}
use Rattle.code_leaps.specs.Calling.{begun_values}
use Rattle.code_stack.specs.declared.layers.Activation.{Activation}
use Rattle.code_run.proofs.StartLemmas.{on_err, starts_untyped, starts_bodiless, guest_starts, guest_waits}
use Rattle.wasm_syntax.specs.declared.instr.Instr.TheVariants as i
use Rattle.code_stack.specs.declared.steps.Step.TheVariants as step
use Rattle.code_run.proofs.starts.start_guest.Goals as goal

pub returns-in_default-clause-starts : goal.returns-in_default-clause-starts
returns-in_default-clause-starts c =
    starts_untyped c.args.program.now c.args.instance c.args.number c.args.depth c.args.arguments.now
    c.in_default.ensures

pub returns-in_default-item-clause-starts : goal.returns-in_default-item-clause-starts
returns-in_default-item-clause-starts c =
    starts_bodiless c.args.program.now c.args.instance c.args.number c.args.depth c.args.arguments.now
    c.in-Some.callee c.in-Some.ensures (rw c.as_slice.ensures at c.in_default-item.ensures)

pub returns-in_default-checked_add-clause-waits : goal.returns-in_default-checked_add-clause-waits
returns-in_default-checked_add-clause-waits c =
    guest_waits c.args.program.now c.args.instance c.args.number c.args.depth c.args.arguments.now c.in-Some.callee
    c.in-Some.ensures c.in-Some-item.body.now (rw c.as_slice.ensures at c.in-Some-item.ensures)
    (length (results c.in-Some.callee.ty.now)) refl

pub returns-in_err-values-clause-waits : goal.returns-in_err-values-clause-waits
returns-in_err-values-clause-waits c =
    on_err c.from_residual.result
    (guest_waits c.args.program.now c.args.instance c.args.number c.args.depth c.args.arguments.now c.in-Some.callee
    c.in-Some.ensures c.in-Some-item.body.now (rw c.as_slice.ensures at c.in-Some-item.ensures)
    (length (results c.in-Some.callee.ty.now)) refl)

pub returns-in_err-begin_locals-clause-waits : goal.returns-in_err-begin_locals-clause-waits
returns-in_err-begin_locals-clause-waits c =
    on_err c.from_residual-in_err-begin_locals.result
    (guest_waits c.args.program.now c.args.instance c.args.number c.args.depth c.args.arguments.now c.in-Some.callee
    c.in-Some.ensures c.in-Some-item.body.now (rw c.as_slice.ensures at c.in-Some-item.ensures)
    (length (results c.in-Some.callee.ty.now)) refl)

pub returns-clause-starts : goal.returns-clause-starts
returns-clause-starts c =
    let callee = c.in-Some.callee in
    let count = length c.results.result.now in
    let first = c.in_ok-values.values in
    let v = c.begin_locals.new.values in
    let e = c.in_ok-begin_locals.ensures in
    let a : ℕ → Activation = λ depth. record {
      instance = c.args.instance;
      «module» = callee.«module»;
      function = callee.function;
      results = count;
      depth = depth;
    } in
    let ed : c.in-Some-checked_add.inner ≡ suc c.args.depth = omega (arith, c.in-Some-checked_add.ensures) in
    guest_starts c.args.program.now c.args.instance c.args.number c.args.depth c.args.arguments.now callee
    c.in-Some.ensures c.in-Some-item.body.now (rw c.as_slice.ensures at c.in-Some-item.ensures) count
    (ap length c.results.ensures)
    (record {
      activation = a c.in-Some-checked_add.inner;
      code = c.as_slice-3.result;
      layers = c.new.result;
      values = v;
      unchecked = true;
      step = step.Goes;
      bulk = i.Nop;
      alloc = c.args.alloc;
    })
    refl (ap a ed) c.as_slice-3.ensures c.new.ensures
    (ap (λ (v : ValuesParts). v.operands) e ∙ c.in_ok-values.ensures.operands)
    (ap (λ (v : ValuesParts). v.locals) e ∙ ap (λ types. first.locals ++ begun_values types) c.as_slice-2.ensures
    ∙ ap (λ locals. locals ++ begun_locals callee.function.now) c.in_ok-values.ensures.locals)
    (ap (λ (v : ValuesParts). v.below) e ∙ c.in_ok-values.ensures.below)
