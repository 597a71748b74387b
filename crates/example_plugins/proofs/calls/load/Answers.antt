use Rattle.example_plugins.proofs.ByteLemmas.{keeps_bytes}
use Rattle.example_plugins.proofs.calls.load.Goals as goal

pub returns-clause-kept : goal.returns-clause-kept
returns-clause-kept g c i n e =
    keeps_bytes c.args.plugins.now.store.machine c.load.new.self.store.machine n (c.load.ensures.others i n e)
