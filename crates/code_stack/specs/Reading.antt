-- What is read from the topmost operand. This project's own.
use Rattle.std.specs.Prelude.{ℕ, ℤ, ◌≡◌, List, ◌∷◌}
use Rattle.wasm_syntax.specs.Operators.{unsigned}
use Rattle.wasm_objects.specs.declared.raw.RawVal.{RawVal}
use Rattle.wasm_objects.specs.declared.raw.RawVal.TheVariants as w

-- no integer of 32 bits, of 64 bits, no reference is on top
abbrev pub LacksI32 : List RawVal → Type 0
LacksI32 (w.I32 z ∷ rest) = ⊥
LacksI32 _ = Unit {0}

abbrev pub LacksI64 : List RawVal → Type 0
LacksI64 (w.I64 z ∷ rest) = ⊥
LacksI64 _ = Unit {0}

abbrev pub LacksReference : List RawVal → Type 0
LacksReference (w.Reference r ∷ rest) = ⊥
LacksReference _ = Unit {0}

-- an integer of 32 bits, of 64 bits stands on top of the rest, as an unsigned number
abbrev pub TakesI32 : List RawVal → ℕ → List RawVal → Type 0
TakesI32 operands x rest = (z : ℤ) × (operands ≡ w.I32 z ∷ rest) × (unsigned 32 z ≡ x)

abbrev pub TakesI64 : List RawVal → ℕ → List RawVal → Type 0
TakesI64 operands x rest = (z : ℤ) × (operands ≡ w.I64 z ∷ rest) × (unsigned 64 z ≡ x)
