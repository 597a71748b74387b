use Rattle.std.proofs.Common.{length, sym, ◌∙◌, ap, ◌-◌, Ok}
use Rattle.binary_code.specs.declared.code_parts.CodeParts.{CodeParts}
use Rattle.binary_code.specs.Nesting.{Steps}
use Rattle.binary_code.proofs.Owed.{code_read, loop_begun, loop_done, loop_ended, loop_failed, loop_on, loop_step, outermost}
use Rattle.binary_code.proofs.code.code_of.Goals as goal

pub loop-init : goal.loop-init
loop-init c =
    loop_begun c.args.context c.args.ty c.args.types c.args.input.now c.in_ok-nesting.nesting c.left-most.result.now c.in_ok-nesting.ensures.ok c.left-most.ensures

pub returns-in-Ok-true : goal.returns-in-Ok-true
returns-in-Ok-true c =
    let step : Steps c.args.context (length c.left-most.result.now - c.loop.counter) (outermost c.args.context c.args.ty c.args.types c.args.input.now) c.go_on.result c.go_on.new.self c.go_on.new.input =
    loop_step c.args.context (length c.left-most.result.now) c.loop.counter c.loop.nesting c.go_on.new.self c.loop.input c.go_on.new.input _ c.go_on.result c.go_on.ensures c.loop-test.true c.loop.invariant in
    code_read c.args.context c.args.ty c.args.types c.args.input.now c.go_on.new.input c.go_on.new.self
    (loop_done c.args.context _ c.go_on.new.self c.go_on.new.input _ c.go_on.result c.in-Ok-true.field-0 step c.in-Ok-true.is c.in-Ok-true.field-0-test)
    ∙ ap (λ (parts : CodeParts). Ok (parts, c.go_on.new.input)) (sym c.into_parts.ensures)

pub returns-in-Err : goal.returns-in-Err
returns-in-Err c =
    let step : Steps c.args.context (length c.left-most.result.now - c.loop.counter) (outermost c.args.context c.args.ty c.args.types c.args.input.now) c.go_on.result c.go_on.new.self c.go_on.new.input =
    loop_step c.args.context (length c.left-most.result.now) c.loop.counter c.loop.nesting c.go_on.new.self c.loop.input c.go_on.new.input _ c.go_on.result c.go_on.ensures c.loop-test.true c.loop.invariant in
    loop_failed c.args.context (length c.left-most.result.now - c.loop.counter) c.args.ty c.args.types c.args.input.now c.go_on.new.input _ c.go_on.new.self c.go_on.result c.in-Err.fault step c.in-Err.is

pub loop-preserved : goal.loop-preserved
loop-preserved c =
    let step : Steps c.args.context (length c.left-most.result.now - c.loop.counter) (outermost c.args.context c.args.ty c.args.types c.args.input.now) c.go_on.result c.go_on.new.self c.go_on.new.input =
    loop_step c.args.context (length c.left-most.result.now) c.loop.counter c.loop.nesting c.go_on.new.self c.loop.input c.go_on.new.input _ c.go_on.result c.go_on.ensures c.loop-test.true c.loop.invariant in
    loop_on c.args.context (length c.left-most.result.now) c.loop.counter c.go_on.new.self c.go_on.new.input _ c.go_on.result c.in-Ok-false.field-0 step c.in-Ok-false.is c.in-Ok-false.field-0-test

pub returns : goal.returns
returns c =
    loop_ended c.args.context (length c.left-most.result.now) c.loop.counter c.args.ty c.args.types c.args.input.now c.loop.input c.byte.new.input c.loop.nesting c.in-Err-byte.fault
    c.loop.auto.counter-end c.loop.invariant c.in-Err-byte.ensures
