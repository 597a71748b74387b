-- Host data that is lent to be changed.
use Rattle.std.specs.Borrow.{Lends, MutBor, Fml, RattleType}
use Rattle.wasm_store.specs.Stores.{StoreParts}
use Rattle.wasm_store.specs.contracts.store.Store.{the_row}

-- the store with other host data
abbrev pub with_data : {T : Type 0} → StoreParts T → T → StoreParts T
with_data s host_data = record s { host_data = host_data }

-- the store ends with the host data that was left
abbrev pub lends_data : (T K B : RattleType) → MutBor (StoreParts T.Denot) → MutBor T.Denot → Fml
lends_data T K B store lent = Lends (the_row T K B) T store lent (with_data store.now)
