use Rattle.std.proofs.Common.{ap, ◌∙◌}
use Rattle.std.proofs.lemmas.Result.{err_from_is_err_and}
use Rattle.std.specs.Prelude.{Err, Some}
use Rattle.spec_machine.specs.TableCalls.{table_new}
use Rattle.wasm_store.proofs.Growths.{is_refused, is_acted}
use Rattle.wasm_store.proofs.table_calls.TableTableCalls.new.Goals as goal

pub returns-in_err-settle-clause-grows : goal.returns-in_err-settle-clause-grows
returns-in_err-settle-clause-grows g c =
    let p = err_from_is_err_and c.from_residual-in_err-settle.result c.from_residual-in_err-settle.ensures.1 in
    is_refused g.T.ResourceLimiter.growths c.in_ok-rule.rule c.args.store.now c.settle.new.store
    (table_new c.args.store.now.machine c.args.ty (Some c.args.init)) c.from_residual-in_err-settle.result _
    (p.1 ∙ ap Err p.2) c.in_ok-rule.ensures
    c.in_err-settle.ensures.settles c.in_err-settle.ensures.machine

pub returns-clause-grows : goal.returns-clause-grows
returns-clause-grows g c =
    is_acted g.T.ResourceLimiter.growths c.in_ok-rule.rule c.args.store.now c.settle.new.store c.table_new.new.store
    c.or_refused.result c.table_new.result c.or_refused.ensures c.table_new.ensures.rest
    (λ m. table_new m c.args.ty (Some c.args.init))
    c.in_ok-rule.ensures c.in_ok-settle.ensures.settles c.in_ok-settle.ensures.machine c.table_new.ensures.acts
