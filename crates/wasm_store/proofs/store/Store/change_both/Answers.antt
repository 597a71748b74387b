use Rattle.std.proofs.Common.{refl}
use Rattle.wasm_store.proofs.LentLemmas.{changes_both}
use Rattle.wasm_store.proofs.store.Store.change_both.Goals as goal

pub returns : goal.returns
returns g c =
    changes_both _ c.args.memory c.memory_data_mut.result _ c.change.result _ _ c.change.ensures c.self.inside.objects
    c.self.inside.turns c.self.inside.host_data c.args.self.now c.self.view_is c.memory_data_mut.ensures.value refl
