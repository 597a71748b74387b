-- The fuel of a store: what was consumed, what is held back for later, and the portion in which it is filled; the
-- number that they make is below zero where more was consumed than there was. All of it is this project's own, as the
-- wasmtime crate has it.
use Rattle.std.specs.Coded.{Coded, code_by, coded×, coded_ℕ, coded_ℤ, coded_option}
use Rattle.std.specs.Prelude.{ℕ, ℤ, pos, negsuc, neg_ℤ, Bool, ◌&&◌, ◌-◌, ◌^◌, ◌-ℤ◌, min, int_lt, int_le, Option, Some, None, if◌then◌else◌, refl}
use Rattle.std.specs.Int.NonZero.{non_zero_u64_get}
use Rattle.std.specs.declared.num.NonZeroU64.{NonZeroU64}

-- what was consumed since it was last filled, less what it was filled with; what is held back; the most that is filled in
-- at once
pub record TankParts : Type 0 where
  pub consumed : ℤ
  pub reserve : ℕ
  pub interval : Option ℕ

abbrev pub tank_parts : ℤ → ℕ → Option ℕ → TankParts
tank_parts consumed reserve interval = record { consumed = consumed; reserve = reserve; interval = interval }

abbrev pub tank_code : Coded TankParts
tank_code =
    code_by (ℤ × (ℕ × Option ℕ)) (coded× coded_ℤ (coded× coded_ℕ (coded_option coded_ℕ)))
    (λ t. (t.consumed, (t.reserve, t.interval))) (λ p. tank_parts p.0 p.1.0 p.1.1) (λ _. refl)

-- an interval as a number
abbrev pub interval_of : Option NonZeroU64 → Option ℕ
interval_of None = None
interval_of (Some n) = Some (non_zero_u64_get n)

-- the one number
abbrev pub fuel_of : TankParts → ℤ
fuel_of t = pos t.reserve -ℤ t.consumed

-- what is left
abbrev pub fuel_left : ℤ → ℕ
fuel_left (pos n) = n
fuel_left (negsuc n) = 0

-- there is some
abbrev pub is_fuelled : ℤ → Bool
is_fuelled fuel = int_lt (pos 0) fuel

-- the most that is filled in at once
abbrev pub portion : Option ℕ → ℕ
portion None = 2 ^ 64 - 1
portion (Some n) = n

-- of so much, what is filled in at once
abbrev pub injected : Option ℕ → ℕ → ℕ
injected interval n = min (min (portion interval) n) (2 ^ 63 - 1)

-- filled with just so much
abbrev pub filled : TankParts → ℕ → TankParts
filled t n = tank_parts (neg_ℤ (pos (injected t.interval n))) (n - injected t.interval n) t.interval

-- filled again with what is left
abbrev pub refuelled : TankParts → TankParts
refuelled t = filled t (fuel_left (fuel_of t))

-- behind a check: filled again where there is fuel and the portion was used up
abbrev pub checked : TankParts → TankParts
checked t = if is_fuelled (fuel_of t) && int_le (pos 0) t.consumed then refuelled t else t
