-- What can be reached from objects of a store. This project's own.
use Rattle.std.specs.Prelude.{ℕ, zero, suc, Bool, ◌||◌, List, [], ◌∷◌, ◌++◌, map, length, filter, flat_map, if◌then◌else◌, Option, Some, None, slice_get}
use Rattle.wasm_values.specs.Handles.{func_store, func_index, global_store, global_index, table_store, table_index, memory_store, memory_index}
use Rattle.wasm_values.specs.declared.store_id.StoreId.{StoreId}
use Rattle.wasm_values.specs.declared.externals.Extern.{Extern}
use Rattle.wasm_values.specs.declared.externals.Extern.TheVariants as x
use Rattle.wasm_objects.specs.Globals.{Global}
use Rattle.wasm_objects.specs.Tables.{Table}
use Rattle.wasm_objects.specs.declared.raw.RawRef.{RawRef}
use Rattle.wasm_objects.specs.declared.raw.RawRef.TheVariants as raw
use Rattle.wasm_objects.specs.declared.raw.RawVal.{RawVal}
use Rattle.wasm_objects.specs.declared.raw.RawVal.TheVariants as w
use Rattle.spec_machine.specs.Machine.{Machine, Function, guest, host, InstanceParts}
use Rattle.spec_machine.specs.Values.{is_id}
use Rattle.spec_reach.specs.Nodes.{Node, func, instance, memory, table, global, has, nodes}

-- ---- what leads from one node to another

-- the function in a reference, in a value, and those in a list of references
abbrev pub in_reference : RawRef → List Node
in_reference (raw.Func n) = func n ∷ []
in_reference _ = []

abbrev pub in_value : RawVal → List Node
in_value (w.Reference r) = in_reference r
in_value _ = []

abbrev pub in_references : List RawRef → List Node
in_references refs = flat_map in_reference refs

-- an object of the store of this id as a node; a tag is none
abbrev pub of_store : StoreId → StoreId → Node → List Node
of_store id store x = if is_id store id then x ∷ [] else []

abbrev pub in_object : StoreId → Extern → List Node
in_object id (x.Func h) = of_store id (func_store h) (func (func_index h))
in_object id (x.Global h) = of_store id (global_store h) (global (global_index h))
in_object id (x.Table h) = of_store id (table_store h) (table (table_index h))
in_object id (x.Memory h) = of_store id (memory_store h) (memory (memory_index h))
in_object id (x.Tag h) = []

-- a function of an instance leads to the instance, one of the host to the objects that were stored with it
abbrev pub from_function : StoreId → Function → List Node
from_function id (guest n k) = instance n ∷ []
from_function id (host ty body stored) = flat_map (in_object id) stored

-- an instance leads to all that it names, and to the functions in its element segments
abbrev pub from_instance : InstanceParts → List Node
from_instance i =
    map func i.functions ++ (map memory i.memories ++ (map table i.tables ++ (map global i.globals
    ++ flat_map in_references i.elements)))

abbrev pub where_there : {A : Type 0} → Option A → (A → List Node) → List Node
where_there None leads = []
where_there (Some a) leads = leads a

abbrev pub links : Machine → Node → List Node
links m (func n) = where_there (slice_get m.functions n) (from_function m.id)
links m (instance n) = where_there (slice_get m.instances n) from_instance
links m (memory n) = []
links m (table n) = where_there (slice_get m.tables n) (λ (t : Table). in_references t.elements)
links m (global n) = where_there (slice_get m.globals n) (λ (g : Global). in_value g.value)

-- ---- reach

-- a set, and all that its members lead to, as far as the store has it
abbrev pub is_near : Machine → List Node → Node → Bool
is_near m set x = has set x || has (flat_map (links m) set) x

abbrev pub grow_reach : Machine → List Node → List Node
grow_reach m set = filter (is_near m set) (nodes m)

abbrev pub grown_reach : Machine → List Node → ℕ → List Node
grown_reach m set zero = set
grown_reach m set (suc n) = grow_reach m (grown_reach m set n)

-- what is reached from these: grown as often as the store has nodes
abbrev pub reach : Machine → List Node → List Node
reach m roots = grown_reach m (filter (has roots) (nodes m)) (length (nodes m))
