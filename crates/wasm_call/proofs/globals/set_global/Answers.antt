use Rattle.wasm_call.proofs.ReplyLemmas.{unnamed, named_answered, change_answered}
use Rattle.wasm_call.proofs.globals.set_global.Goals as goal

pub returns-in_default : goal.returns-in_default
returns-in_default g c = λ limit some. unnamed _ limit _ _ _ c.in_default.ensures c.requires

pub returns-in_default-operand_value : goal.returns-in_default-operand_value
returns-in_default-operand_value g c = λ limit some. named_answered _ limit _ _ _ _ _ _ c.in-Some.ensures
    (unnamed _ limit _ _ _ c.in_default-operand_value.ensures c.requires)

pub returns : goal.returns
returns g c = λ limit some. named_answered _ limit _ _ _ _ _ _ c.in-Some.ensures
    (named_answered _ limit _ _ _ _ _ _ c.in-Some-operand_value.ensures
    (change_answered _ limit _ _ _ _ _ _ c.set-answer.ensures.machine c.set-answer.ensures.rest c.requires
    some c.changed.ensures.done c.changed.ensures.refused))
