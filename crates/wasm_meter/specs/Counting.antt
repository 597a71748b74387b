-- Counts of what went wrong outside. All of it is this project's own.
use Rattle.std.specs.Prelude.{◌≡◌, ℕ, ◌-◌, ◌^◌, ◌<◌, ◌≤◌, ◌⊎◌}

-- a count rose, or stands at its last value
abbrev pub Rose : ℕ → ℕ → Type 0
Rose old new = (old < new) ⊎ (new ≡ 2 ^ 64 - 1)

-- none of the four counts of host data is lower than before: the limiter's denials and faults, and the faults of the
-- hook and of the deadline behaviour
abbrev pub NoneFell : {T : Type 0} → (T → ℕ) → (T → ℕ) → (T → ℕ) → (T → ℕ) → T → T → Type 0
NoneFell denials limiter_faults hook_faults behaviour_faults old new =
    (denials old ≤ denials new)
    × (limiter_faults old ≤ limiter_faults new)
    × (hook_faults old ≤ hook_faults new)
    × (behaviour_faults old ≤ behaviour_faults new)
