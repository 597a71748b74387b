use Rattle.std.proofs.Common.{ap, ◌∙◌}
use Rattle.std.proofs.lemmas.Result.{err_from_is_err_and}
use Rattle.std.specs.Prelude.{Ok, Err}
use Rattle.spec_machine.specs.MemoryCalls.{memory_new}
use Rattle.wasm_store.proofs.Growths.{is_refused, is_acted}
use Rattle.wasm_store.proofs.memory_calls.MemoryMemoryCalls.new.Goals as goal

pub returns-in_err-settle-clause-grows : goal.returns-in_err-settle-clause-grows
returns-in_err-settle-clause-grows g c =
    let p = err_from_is_err_and c.from_residual.result c.from_residual.ensures.1 in
    is_refused g.T.ResourceLimiter.growths c.memory_new_rule-rule.result c.args.store.now c.settle.new.store
    (Ok (memory_new c.args.store.now.machine c.args.ty)) c.from_residual.result _ (p.1
    ∙ ap Err p.2) (ap Ok c.memory_new_rule-rule.ensures)
    c.in_err-settle.ensures.settles c.in_err-settle.ensures.machine

pub returns-clause-grows : goal.returns-clause-grows
returns-clause-grows g c =
    is_acted g.T.ResourceLimiter.growths c.memory_new_rule-rule.result c.args.store.now c.settle.new.store
    c.memory_new.new.store
    c.or_refused.result c.memory_new.result c.or_refused.ensures c.memory_new.ensures.rest
    (λ m. Ok (memory_new m c.args.ty))
    (ap Ok c.memory_new_rule-rule.ensures) c.in_ok-settle.ensures.settles c.in_ok-settle.ensures.machine
    c.memory_new.ensures.acts
