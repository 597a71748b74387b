use Rattle.std.proofs.Common.{◌++◌, length, refl, sym, ap, ◌∙◌}
use Rattle.wasm_types.specs.FunctionParts.{params}
use Rattle.spec_execution.specs.Entering.{begun_locals}
use Rattle.code_stack.specs.Values.{values_parts}
use Rattle.code_leaps.specs.Calling.{begun_values}
use Rattle.code_stack.specs.declared.layers.Activation.{Activation}
use Rattle.code_run.proofs.CallLemmas.{calls_bodiless, calls_goes, has_called}
use Rattle.code_run.proofs.thread.Thread.begin.Goals as goal

pub returns-in_default : goal.returns-in_default
returns-in_default c = λ program frames n number e x ed other.
    calls_bodiless program frames n c.args.self.now c.args.self.now c.args.instance number e c.args.callee x
    c.requires other c.args.depth ed
    (sym (rw c.as_slice.ensures at c.in_default.ensures))

pub returns : goal.returns
returns c = λ program frames n number e x ed other.
    let old = c.args.self.now in
    let entered = c.enter.new.self in
    let v = c.begin_locals.new.values in
    let a : Activation = record {
      instance = c.args.instance;
      «module» = c.args.callee.«module»;
      function = c.args.callee.function;
      results = length c.results.result.now;
      depth = c.args.depth;
    } in
    calls_goes program frames n old
    (record old { activation = a; code = c.as_slice-self.result; layers = c.push.new.self; values = v })
    c.args.instance number e c.args.callee x c.requires other c.args.depth ed c.in-Some.body.now
    (length c.results.result.now) (sym (rw c.as_slice.ensures at c.in-Some.ensures)) (ap length c.results.ensures)
    (record { activation = old.activation; rest = old.code }) refl refl v
    (has_called (length c.params.result.now) (length (params c.args.callee.ty.now)) (ap length c.params.ensures)
    (begun_locals c.args.callee.function.now) old.values entered v (rw c.if-not-branch.false at c.in_ok-enter.ensures.done)
    (c.in_ok-begin_locals.ensures
    ∙ ap (λ types. values_parts entered.operands (entered.locals ++ begun_values types) entered.below entered.room)
    c.as_slice-2.ensures))
    (ap (λ is. record { activation = a; code = is; layers = c.push.new.self; values = v }) c.as_slice-self.ensures
    ∙ ap (λ ls. record { activation = a; code = c.in-Some.body.now.instrs; layers = ls; values = v })
    c.in_ok-push.ensures.ok)
