use Rattle.spec_machine.specs.Commands.{one_value}
use Rattle.spec_machine.specs.Commands.{operation}
use Rattle.spec_machine.specs.declared.operation.Op.TheVariants as op
use Rattle.wasm_host.specs.Scopes.{scope_of}
use Rattle.wasm_call.proofs.ReplyLemmas.{unnamed, named_answered, named_short, performed_short, read_answered, read_refused, read_short, is_ok}
use Rattle.wasm_call.proofs.globals.get_global.Goals as goal

pub returns-in_default : goal.returns-in_default
returns-in_default g c = λ limit some. unnamed _ limit _ _ _ c.in_default.ensures c.requires

pub returns-in_err-reply-in-Ok : goal.returns-in_err-reply-in-Ok
returns-in_err-reply-in-Ok g c = λ limit some.
    performed_short _ limit (operation c.args.store.now.machine (scope_of c.args.scope.now) (op.GlobalGet c.args.global)) _
    _ _ c.from_residual.ensures.0
    (named_short _ limit _ _ _ _ _ c.in-Some.ensures
    (read_short _ limit one_value _ _ (is_ok _ _ c.in-Ok.ensures) c.requires some))

pub returns-in_ok-reply-in-Ok : goal.returns-in_ok-reply-in-Ok
returns-in_ok-reply-in-Ok g c = λ limit some. named_answered _ limit _ _ _ _ _ _ c.in-Some.ensures
    (read_answered _ limit one_value _ _ _ _ _ c.in-Ok.ensures c.in_ok-reply-in-Ok.ensures some
    c.requires c.count_act.ensures)

pub returns-in-Err : goal.returns-in-Err
returns-in-Err g c = λ limit some. named_answered _ limit _ _ _ _ _ _ c.in-Some.ensures
    (read_refused _ limit one_value _ _ _ c.in-Err.ensures c.requires)
