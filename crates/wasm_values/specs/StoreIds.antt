-- Ids of stores, and the sources that give them. This project's own.
use Rattle.std.specs.Prelude.{ℕ, ◌≡◌, ◌+◌}
use Rattle.std.specs.Int.NonZero.{non_zero_u64_get}
use Rattle.wasm_values.specs.declared.store_id.StoreId.{StoreId}

-- the number of an id
abbrev pub number : StoreId → ℕ
number id = non_zero_u64_get id.raw

-- a source gives its next id, and then stands at the one after it
abbrev pub Gives : ℕ → StoreId → ℕ → Type 0
Gives before id after = (number id ≡ before) × (after ≡ before + 1)
