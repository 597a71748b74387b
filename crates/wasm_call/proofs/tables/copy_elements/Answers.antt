use Rattle.wasm_call.proofs.ReplyLemmas.{unnamed, named_answered, change_answered}
use Rattle.wasm_call.proofs.tables.copy_elements.Goals as goal

pub returns-in_default : goal.returns-in_default
returns-in_default g c = λ limit some. unnamed _ limit _ _ _ c.in_default.ensures c.requires

pub returns-in_default-named_table : goal.returns-in_default-named_table
returns-in_default-named_table g c = λ limit some. named_answered _ limit _ _ _ _ _ _ c.in-Some.ensures
    (unnamed _ limit _ _ _ c.in_default-named_table.ensures c.requires)

pub returns : goal.returns
returns g c = λ limit some. named_answered _ limit _ _ _ _ _ _ c.in-Some.ensures
    (named_answered _ limit _ _ _ _ _ _ c.in-Some-named_table.ensures
    (change_answered _ limit _ _ _ _ _ _ c.copy-answer.ensures.machine c.copy-answer.ensures.rest c.requires
    some c.changed.ensures.done c.changed.ensures.refused))
