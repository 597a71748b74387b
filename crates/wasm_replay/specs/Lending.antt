-- Host data that are recorded, of which what the host keeps is lent to be changed.
use Rattle.std.specs.Borrow.{Lends, MutBor, Fml, RattleType}
use Rattle.wasm_replay.specs.contracts.recorded.Recorded.{the_row}
use Rattle.wasm_replay.specs.declared.recorded.Recorded.{Recorded}

-- the same with other data within
abbrev pub with_inner : {T : Type 0} → Recorded T → T → Recorded T
with_inner s inner = record s { inner = inner }

-- they end with the data that were left there, and the record as it was
abbrev pub lends_inner : (T : RattleType) → MutBor (Recorded T.Denot) → MutBor T.Denot → Fml
lends_inner T recorded lent = Lends (the_row T) T recorded lent (with_inner recorded.now)
