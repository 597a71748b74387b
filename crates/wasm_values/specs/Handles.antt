-- Handles, by which a host speaks of what a store holds: an id and a place each. This project's own.
use Rattle.std.specs.Prelude.{ℕ}
use Rattle.wasm_values.specs.declared.store_id.StoreId.{StoreId}
use Rattle.wasm_values.specs.declared.handles.Func.{Func}
use Rattle.wasm_values.specs.declared.handles.Global.{Global}
use Rattle.wasm_values.specs.declared.handles.Table.{Table}
use Rattle.wasm_values.specs.declared.handles.Memory.{Memory}
use Rattle.wasm_values.specs.declared.handles.Tag.{Tag}
use Rattle.wasm_values.specs.declared.handles.Instance.{Instance}

-- the handle of a function by its two parts, and these parts
abbrev pub func_of : StoreId → ℕ → Func
func_of store index = record { store = store; index = index }

abbrev pub func_store : Func → StoreId
func_store h = h.store

abbrev pub func_index : Func → ℕ
func_index h = h.index

-- the handle of a global by its two parts, and these parts
abbrev pub global_of : StoreId → ℕ → Global
global_of store index = record { store = store; index = index }

abbrev pub global_store : Global → StoreId
global_store h = h.store

abbrev pub global_index : Global → ℕ
global_index h = h.index

-- the handle of a table by its two parts, and these parts
abbrev pub table_of : StoreId → ℕ → Table
table_of store index = record { store = store; index = index }

abbrev pub table_store : Table → StoreId
table_store h = h.store

abbrev pub table_index : Table → ℕ
table_index h = h.index

-- the handle of a memory by its two parts, and these parts
abbrev pub memory_of : StoreId → ℕ → Memory
memory_of store index = record { store = store; index = index }

abbrev pub memory_store : Memory → StoreId
memory_store h = h.store

abbrev pub memory_index : Memory → ℕ
memory_index h = h.index

-- the handle of a tag by its two parts, and these parts
abbrev pub tag_of : StoreId → ℕ → Tag
tag_of store index = record { store = store; index = index }

abbrev pub tag_store : Tag → StoreId
tag_store h = h.store

abbrev pub tag_index : Tag → ℕ
tag_index h = h.index

-- the handle of an instance by its two parts, and these parts
abbrev pub instance_of : StoreId → ℕ → Instance
instance_of store index = record { store = store; index = index }

abbrev pub instance_store : Instance → StoreId
instance_store h = h.store

abbrev pub instance_index : Instance → ℕ
instance_index h = h.index
