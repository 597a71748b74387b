use Rattle.example_plugins.proofs.ByteLemmas.{after_fuel}
use Rattle.example_plugins.proofs.calls.fill.Goals as goal

pub returns-in-Ok : goal.returns-in-Ok
returns-in-Ok c own =
    after_fuel c.args.plugins.now c.set_fuel.new.self own 35000 c.set_fuel.result c.set_fuel.ensures.machine
    c.set_fuel.ensures.guests

pub returns-in-Err : goal.returns-in-Err
returns-in-Err c own =
    after_fuel c.args.plugins.now c.set_fuel.new.self own 35000 c.set_fuel.result c.set_fuel.ensures.machine
    c.set_fuel.ensures.guests
