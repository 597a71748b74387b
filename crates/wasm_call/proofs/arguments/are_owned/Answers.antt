use Rattle.std.proofs.Common.{sym, ◌∙◌, arith}
use Rattle.spec_machine.specs.Names.{operand_value}
use Rattle.spec_machine.specs.declared.name.Operand.{Operand}
use Rattle.store_state.specs.Machine.{run_machine}
use Rattle.wasm_host.specs.Scopes.{scope_of}
use Rattle.wasm_call.specs.Arguments.{is_owned}
use Rattle.wasm_call.proofs.ArgumentLemmas.{all_step, all_end}
use Rattle.wasm_call.proofs.arguments.are_owned.Goals as goal

pub loop-arg-preserved : goal.loop-arg-preserved
loop-arg-preserved c = λ base held e.
    all_step (λ (arg : Operand). is_owned (run_machine base c.args.program.now held)
    (operand_value (scope_of c.args.scope.now) arg)) c.args.args.now c.loop-arg.arg-index c.arg-item.result
    (omega (arith, c.loop-arg-test.true)) c.arg-item.is
    (sym (c.is_owned.ensures base held e) ∙ c.if-not-is_owned.false) (c.loop-arg.invariant base held e)

pub returns : goal.returns
returns c = λ base held e.
    all_end (λ (arg : Operand). is_owned (run_machine base c.args.program.now held)
    (operand_value (scope_of c.args.scope.now) arg)) c.args.args.now c.loop-arg.arg-index
    (omega (arith, c.loop-arg-test.false)) (c.loop-arg.invariant base held e)
