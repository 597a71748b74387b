use Rattle.spec_machine.specs.MemoryCalls.{memory_grow}
use Rattle.wasm_store.proofs.Growths.{is_acted}
use Rattle.wasm_store.proofs.memory_calls.MemoryMemoryCalls.grow.Goals as goal

pub returns-clause-grows : goal.returns-clause-grows
returns-clause-grows g c =
    is_acted g.T.ResourceLimiter.growths c.in_ok-rule.rule c.args.store.now c.settle.new.store c.memory_grow.new.store
    c.or_refused.result c.memory_grow.result c.or_refused.ensures c.memory_grow.ensures.rest
    (λ m. memory_grow m c.args.self.now c.args.delta)
    c.in_ok-rule.ensures c.in_ok-settle.ensures.settles c.in_ok-settle.ensures.machine c.memory_grow.ensures.acts
