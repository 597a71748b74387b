use Rattle.replay_run.proofs.StoreLemmas.{first_store}
use Rattle.replay_run.proofs.stores.empty_store.Goals as goal

pub returns : goal.returns
returns g c = first_store c.args.asked c.in-Ok.store _ _ _ _ c.in-Ok.ensures.given c.new-ids.ensures c.new_engine.ensures
    c.in-Ok.ensures.made
