use Rattle.wasm_call.proofs.ReplyLemmas.{unnamed, named_answered, change_answered}
use Rattle.wasm_call.proofs.memories.write_memory.Goals as goal

pub returns-in_default : goal.returns-in_default
returns-in_default g c = λ limit some. unnamed _ limit _ _ _ c.in_default.ensures c.requires

pub returns : goal.returns
returns g c = λ limit some. named_answered _ limit _ _ _ _ _ _ c.in-Some.ensures
    (change_answered _ limit _ _ _ _ _ _ (rw c.as_slice.ensures at c.write-answer.ensures.machine)
    c.write-answer.ensures.rest c.requires some c.changed.ensures.done c.changed.ensures.refused)
