use Rattle.replay_run.proofs.RecordLemmas.{law_of_records}
use Rattle.replay_run.proofs.laws.law_replays_are_the_record.Goals as goal

pub returns : goal.returns
returns g c = record { same = law_of_records g.E.EpochSource.readings }
