-- Host data that is lent through a store with guests.
use Rattle.std.specs.Borrow.{Lends, MutBor, Fml, RattleType}
use Rattle.wasm_store.specs.Lending.{with_data}
use Rattle.wasm_plugins.specs.Guests.{PluginsParts}
use Rattle.wasm_plugins.specs.contracts.plugins.Plugins.{the_row}

-- the same guests in the store with other host data
abbrev pub with_plugin_data : {T : Type 0} → PluginsParts T → T → PluginsParts T
with_plugin_data p host_data = record p { store = with_data p.store host_data }

-- the store ends with the host data that was left
abbrev pub lends_plugin_data : (T K B : RattleType) → MutBor (PluginsParts T.Denot) → MutBor T.Denot → Fml
lends_plugin_data T K B plugins lent = Lends (the_row T K B) T plugins lent (with_plugin_data plugins.now)
