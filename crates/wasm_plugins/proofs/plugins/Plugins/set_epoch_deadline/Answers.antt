use Rattle.wasm_plugins.proofs.MeterLemmas.{deadline_apart}
use Rattle.wasm_plugins.proofs.plugins.Plugins.set_epoch_deadline.Goals as goal

pub invariant_of-self : goal.invariant_of-self
invariant_of-self g c =
    deadline_apart g.E.EpochSource.readings c.args.epochs.now c.set_epoch_deadline.new.epochs
    c.self.inside.store.machine c.set_epoch_deadline.new.self.machine c.args.ticks c.set_epoch_deadline.result
    c.keeps_well_formed.ensures c.self.inside.guests.items c.self.invariant c.set_epoch_deadline.ensures.machine
