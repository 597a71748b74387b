-- Bytes of a memory of what a run changes, lent to be written. This project's own.
use Rattle.std.specs.Prelude.{ℕ, List}
use Rattle.std.specs.Borrow.{Lends, MutBor, Fml, u8, Array}
use Rattle.store_state.specs.Lending.{memories_left}
use Rattle.store_state.specs.Parts.{HeldParts}
use Rattle.store_state.specs.contracts.held.Held.{the_row}

-- what is held, once the loan of the bytes of a memory ends
abbrev pub held_left : HeldParts → ℕ → List ℕ → HeldParts
held_left held n left = record held { memories = memories_left held.memories n left }

abbrev pub LendsHeldBytes : MutBor HeldParts → ℕ → MutBor (List ℕ) → Fml
LendsHeldBytes lender n lent = Lends the_row (Array u8 0) lender lent (held_left lender.now n)
