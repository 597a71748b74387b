-- Two runs by one tape.
use Rattle.law_replay.proofs.TapeLemmas.{law_of_tapes, every_tapable}
use Rattle.law_replay.proofs.laws.law_tapes.Goals as goal

pub returns : goal.returns
returns c = record { tapes = law_of_tapes; tapable = every_tapable }
