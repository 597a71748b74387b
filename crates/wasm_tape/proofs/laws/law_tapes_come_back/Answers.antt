use Rattle.wasm_tape.proofs.WayBack.{tape_back}
use Rattle.wasm_tape.proofs.laws.law_tapes_come_back.Goals as goal

pub returns : goal.returns
returns c = λ types t d f e. tape_back types t d f e
