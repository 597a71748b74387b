use Rattle.std.proofs.Common.{◌∙◌, ap, sym}
use Rattle.std.specs.Prelude.{Ok}
use Rattle.wasm_host.proofs.FuelLemmas.{fuel_told}
use Rattle.wasm_host.proofs.fuel.fuel_seen.Goals as goal

pub returns : goal.returns
returns c =
    ap Ok c.fuel.ensures
    ∙ fuel_told c.args.store.now.held.now.fuel c.args.store.now.engine.now.consume_fuel
    (sym c.consume_fuel.ensures ∙ c.if-not-consume_fuel.false)
