-- Instances have as many segments in both stores at the end.
use Rattle.law_guests.proofs.SegmentLemmas.{segments_stay_as_many}
use Rattle.law_guests.proofs.laws.law_segments_stay_as_many.Goals as goal

pub returns : goal.returns
returns c = segments_stay_as_many
