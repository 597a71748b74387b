use Rattle.wasm_meter.proofs.TankLemmas.{filled_exactly, keeps_what_is_left, keeps_the_number}
use Rattle.wasm_meter.proofs.laws.law_tank.Goals as goal

pub returns-clause-filled : goal.returns-clause-filled
returns-clause-filled c = filled_exactly

pub returns-clause-refuelled : goal.returns-clause-refuelled
returns-clause-refuelled c = keeps_what_is_left

pub returns-clause-checked : goal.returns-clause-checked
returns-clause-checked c = keeps_the_number
