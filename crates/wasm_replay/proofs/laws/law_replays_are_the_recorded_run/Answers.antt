-- A replay of a record.
use Rattle.wasm_replay.proofs.ReplayLemmas.{law_of_replays}
use Rattle.wasm_replay.proofs.laws.law_replays_are_the_recorded_run.Goals as goal

pub returns : goal.returns
returns g c = record { replays = law_of_replays _ }
