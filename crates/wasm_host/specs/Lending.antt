-- Host data that is lent through what a step works with.
use Rattle.std.specs.Borrow.{Lends, MutBor, Fml, RattleType}
use Rattle.std.specs.Prelude.{[]}
use Rattle.wasm_host.specs.contracts.caller.Caller.{the_row}
use Rattle.wasm_host.specs.declared.caller.Caller.{Caller}
use mir.Syntax.{named}

-- the same with other host data
abbrev pub with_data : {T : Type 0} → Caller T → T → Caller T
with_data c host_data = record c { host_data = record c.host_data { now = host_data } }

-- it ends with the host data that was left
abbrev pub lends_data : (T : RattleType) → MutBor (Caller T.Denot) → MutBor T.Denot → Fml
lends_data T caller lent = Lends (the_row (record { mir = named 0; lft = [] }) T) T caller lent (with_data caller.now)
