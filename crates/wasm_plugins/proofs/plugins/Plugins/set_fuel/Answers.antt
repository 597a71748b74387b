use Rattle.wasm_plugins.proofs.MeterLemmas.{fuelled_apart}
use Rattle.wasm_plugins.proofs.plugins.Plugins.set_fuel.Goals as goal

pub invariant_of-self : goal.invariant_of-self
invariant_of-self g c =
    fuelled_apart c.self.inside.store.machine c.set_fuel.new.self.machine c.args.fuel c.set_fuel.result
    c.keeps_well_formed.ensures c.self.inside.guests.items c.self.invariant c.set_fuel.ensures.machine
