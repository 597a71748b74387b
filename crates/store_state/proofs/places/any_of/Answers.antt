use Rattle.store_state.proofs.Values.{any_given}
use Rattle.store_state.proofs.places.any_of.Goals as goal

pub returns : goal.returns
returns c = any_given c.from_i31.result c.args.number c.from_i31.ensures.given c.from_i31.ensures.refused
