-- A tank from which something is consumed.
use Rattle.std.proofs.Common.{◌≡◌, ap, sym, ◌∙◌}
use Rattle.std.proofs.Math.IntN.{neg_ℤ-+ℤ, +ℤ_assoc}
use Rattle.std.specs.Prelude.{ℕ, ℤ, pos, neg_ℤ, ◌+ℤ◌, ◌-ℤ◌}
use Rattle.wasm_meter.proofs.TankLemmas.{keeps_the_number}
use Rattle.wasm_meter.specs.Fuel.{TankParts, fuel_of, checked}

less_more : (a b c : ℤ) → a -ℤ (b +ℤ c) ≡ (a -ℤ b) -ℤ c
less_more a b c = ap (λ z. a +ℤ z) (neg_ℤ-+ℤ b c) ∙ sym (+ℤ_assoc a (neg_ℤ b) (neg_ℤ c))

-- checked, and then charged with so much
pub charged_number : (t : TankParts) (amount : ℕ) →
    fuel_of (record (checked t) { consumed = (checked t).consumed +ℤ pos amount }) ≡ fuel_of t -ℤ pos amount
charged_number t amount =
    less_more (pos (checked t).reserve) (checked t).consumed (pos amount)
    ∙ ap (λ z. z -ℤ pos amount) (keeps_the_number t)
