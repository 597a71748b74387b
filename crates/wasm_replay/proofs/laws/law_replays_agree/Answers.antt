-- Two replays of one tape.
use Rattle.wasm_replay.proofs.ReplayLemmas.{replays_agree}
use Rattle.wasm_replay.proofs.laws.law_replays_agree.Goals as goal

pub returns : goal.returns
returns c = replays_agree
