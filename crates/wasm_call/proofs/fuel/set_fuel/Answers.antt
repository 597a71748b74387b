use Rattle.wasm_call.proofs.ReplyLemmas.{change_answered}
use Rattle.wasm_call.proofs.fuel.set_fuel.Goals as goal

pub returns : goal.returns
returns g c = λ limit some.
    change_answered _ limit _ _ _ _ _ _ c.set_fuel-answer.ensures.machine c.set_fuel-answer.ensures.rest c.requires
    some c.changed.ensures.done c.changed.ensures.refused
