use Rattle.binary_run.proofs.StartLemmas.{starts}
use Rattle.binary_run.proofs.running.new_store.Goals as goal

pub returns : goal.returns
returns c = starts c.args.options c.in-Ok.store _ _ _ _ _ _ c.in-Ok.ensures.given c.new-ids.ensures c.new_engine.ensures
    c.in-Ok.ensures.made c.new_pool-pool.ensures c.limiter.ensures c.fill.ensures
