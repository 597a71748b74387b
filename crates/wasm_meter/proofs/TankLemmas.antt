-- Tanks that are filled, filled again, and checked.
use Rattle.std.specs.Prelude.{ℕ, ℤ, pos, negsuc, Bool, true, false, ◌-◌, ◌+◌, ◌+ℤ◌, ◌^◌, min, ◌≤◌, ◌&&◌, int_le, if◌then◌else◌, ◌≡◌, refl}
use Rattle.std.proofs.Common.{arith, ap, ◌∙◌}
use Rattle.std.proofs.Math.IntN.{neg_ℤ-neg_ℤ}
use Rattle.wasm_meter.specs.Fuel.{TankParts, fuel_of, fuel_left, is_fuelled, injected, portion, refuelled}
use Rattle.wasm_meter.specs.TankLaws.{IsFilledExactly, KeepsWhatIsLeft, KeepsTheNumber}

min_below : (p n most : ℕ) → min (min p n) most ≤ n
min_below p n most = omega arith

pub filled_exactly : IsFilledExactly
filled_exactly t n =
    let i : ℕ = injected t.interval n in
    let small : i ≤ n = min_below (portion t.interval) n (2 ^ 63 - 1) in
    let sum : n - i + i ≡ n = omega (arith, small) in
    ap (λ z. pos (n - i) +ℤ z) (neg_ℤ-neg_ℤ (pos i)) ∙ ap pos sum

pub keeps_what_is_left : KeepsWhatIsLeft
keeps_what_is_left t = ap fuel_left (filled_exactly t (fuel_left (fuel_of t)))

left_of : (fuel : ℤ) → is_fuelled fuel ≡ true → pos (fuel_left fuel) ≡ fuel
left_of (pos n) e = refl
left_of (negsuc n) e = absurd cc

by_cases : (t : TankParts) (a b : Bool) → is_fuelled (fuel_of t) ≡ a →
    fuel_of (if a && b then refuelled t else t) ≡ fuel_of t
by_cases t true true e = filled_exactly t (fuel_left (fuel_of t)) ∙ left_of (fuel_of t) e
by_cases t true false e = refl
by_cases t false b e = refl

pub keeps_the_number : KeepsTheNumber
keeps_the_number t = by_cases t (is_fuelled (fuel_of t)) (int_le (pos 0) t.consumed) refl
