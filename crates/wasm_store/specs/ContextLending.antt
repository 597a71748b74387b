-- Host data that is lent through a store that is itself lent.
use Rattle.std.specs.Borrow.{Lends, MutBor, Fml, RattleType}
use Rattle.wasm_store.specs.Lending.{with_data}
use Rattle.wasm_store.specs.contracts.context.StoreContextMut.{the_row}
use Rattle.wasm_store.specs.declared.context.StoreContextMut.{StoreContextMut}
use mir.Syntax.{named}
use Rattle.std.specs.Prelude.{[]}

-- the context with other host data in its store
abbrev pub with_context_data : {T K B : Type 0} → StoreContextMut T K B → T → StoreContextMut T K B
with_context_data c host_data = record c { store = record c.store { now = with_data c.store.now host_data } }

abbrev pub lends_context_data : (T K B : RattleType) → MutBor (StoreContextMut T.Denot K.Denot B.Denot) →
    MutBor T.Denot → Fml
lends_context_data T K B context lent =
    Lends (the_row (record { mir = named 0; lft = [] }) T K B) T context lent
    (with_context_data context.now)
