use Rattle.std.proofs.Common.{ap, ◌∙◌, ◌-ℤ◌, pos}
use Rattle.std.specs.Prelude.{◌+ℤ◌}
use Rattle.wasm_meter.specs.Fuel.{fuel_of}
use Rattle.store_state.proofs.TankLemmas.{charged_number}
use Rattle.store_state.proofs.tank.Tank.consume.Goals as goal

pub returns : goal.returns
returns c =
    ap fuel_of c.charge.ensures
    ∙ ap (λ t. fuel_of (record t { consumed = t.consumed +ℤ pos c.args.amount })) c.check-has_fuel.ensures.behind
    ∙ charged_number c.self.inside.fuel c.args.amount
    ∙ ap (λ z. z -ℤ pos c.args.amount) c.self.view_is
