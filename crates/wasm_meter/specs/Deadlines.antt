-- Deadlines: this project's own, as those of the wasmtime crate.
use Rattle.std.specs.Prelude.{ℕ, ◌+◌, ◌-◌, ◌^◌, min, Bool, nat_le}

-- so many ticks past a reading; the last reading of all is past each deadline
abbrev pub deadline_at : ℕ → ℕ → ℕ
deadline_at reading ticks = min (reading + ticks) (2 ^ 64 - 2)

-- a reading at or past a deadline
abbrev pub is_reached : ℕ → ℕ → Bool
is_reached deadline reading = nat_le deadline reading
