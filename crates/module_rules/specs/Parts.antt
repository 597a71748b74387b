-- Tests of the items of one part.
use Rattle.std.specs.Prelude.{ℕ, Bool, ◌||◌}
use Rattle.wasm_syntax.specs.Rules.{is_past}

-- an item breaks a rule, or is past the length of a list; this project's own
abbrev pub is_long_or : {A : Type 0} → (ℕ → A → Bool) → ℕ → A → Bool
is_long_or test n a = is_past n a || test n a
