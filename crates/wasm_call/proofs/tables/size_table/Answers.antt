use Rattle.std.proofs.Common.{refl}
use Rattle.spec_machine.specs.declared.reply.Reply.TheVariants.{Number}
use Rattle.wasm_call.proofs.ReplyLemmas.{unnamed, named_answered, read_answered, read_refused}
use Rattle.wasm_call.proofs.tables.size_table.Goals as goal

pub returns-in_default : goal.returns-in_default
returns-in_default g c = λ limit some. unnamed _ limit _ _ _ c.in_default.ensures c.requires

pub returns-in-Ok : goal.returns-in-Ok
returns-in-Ok g c = λ limit some. named_answered _ limit _ _ _ _ _ _ c.in-Some.ensures
    (read_answered _ limit Number _ _ _ _ _ c.in-Ok.ensures refl some c.requires c.count_act.ensures)

pub returns-in-Err : goal.returns-in-Err
returns-in-Err g c = λ limit some. named_answered _ limit _ _ _ _ _ _ c.in-Some.ensures
    (read_refused _ limit Number _ _ _ c.in-Err.ensures c.requires)
