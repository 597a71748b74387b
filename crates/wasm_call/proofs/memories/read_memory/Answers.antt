use Rattle.std.proofs.Common.{refl, sym, ◌∙◌}
use Rattle.spec_machine.specs.declared.reply.Reply.TheVariants.{Bytes}
use Rattle.spec_machine.specs.Commands.{operation}
use Rattle.spec_machine.specs.declared.operation.Op.TheVariants as op
use Rattle.wasm_host.specs.Scopes.{scope_of}
use Rattle.wasm_call.proofs.ReplyLemmas.{unnamed, named_answered, named_short, performed_short, read_answered, read_refused, read_short}
use Rattle.wasm_call.proofs.memories.read_memory.Goals as goal

pub returns-in_default : goal.returns-in_default
returns-in_default g c = λ limit some. unnamed _ limit _ _ _ c.in_default.ensures c.requires

pub returns-in_err-bytes : goal.returns-in_err-bytes
returns-in_err-bytes g c = λ limit some.
    performed_short _ limit (operation c.args.store.now.machine (scope_of c.args.scope.now)
    (op.MemoryRead c.args.memory c.args.at c.args.len)) _ _ _ c.from_residual.ensures.0
    (named_short _ limit _ _ _ _ _ c.in-Some.ensures
    (read_short _ limit Bytes _ _ c.in_err-bytes.ensures.due c.requires some))

pub returns-in-Ok : goal.returns-in-Ok
returns-in-Ok g c = λ limit some. named_answered _ limit _ _ _ _ _ _ c.in-Some.ensures
    (read_answered _ limit Bytes _ _ _ _ _ (sym c.in-Ok.is ∙ c.in_ok-bytes.ensures.read) refl some
    c.requires c.count_act.ensures)

pub returns-in-Err : goal.returns-in-Err
returns-in-Err g c = λ limit some. named_answered _ limit _ _ _ _ _ _ c.in-Some.ensures
    (read_refused _ limit Bytes _ _ _ (sym c.in-Err.is ∙ c.in_ok-bytes.ensures.read) c.requires)
