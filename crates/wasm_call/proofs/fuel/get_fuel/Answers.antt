use Rattle.std.proofs.Common.{refl}
use Rattle.spec_machine.specs.declared.reply.Reply.TheVariants.{Number}
use Rattle.wasm_call.proofs.ReplyLemmas.{read_answered, read_refused}
use Rattle.wasm_call.proofs.fuel.get_fuel.Goals as goal

pub returns-in-Ok : goal.returns-in-Ok
returns-in-Ok g c = λ limit some. read_answered _ limit Number _ _ _ _ _ c.in-Ok.ensures refl some c.requires c.count_act.ensures

pub returns-in-Err : goal.returns-in-Err
returns-in-Err g c = λ limit some. read_refused _ limit Number _ _ _ c.in-Err.ensures c.requires
