use Rattle.wasm_run.proofs.StartLemmas.{starts}
use Rattle.wasm_run.proofs.store.new_store.Goals as goal

pub returns : goal.returns
returns g c = starts c.args.asked c.args.answers _ _ _ _ _ _ _ _ c.is_some-limits.ensures c.is_some-hooks.ensures
    c.is_some-behaves.ensures c.in_ok-host_data.ensures c.empty_store-store.ensures c.limit.ensures c.hook_in.ensures
    c.behave_by.ensures
