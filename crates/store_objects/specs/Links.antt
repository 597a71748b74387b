-- What leads from one object of a store to others, place by place. This project's own.
use Rattle.std.specs.Prelude.{ℕ, ◌^◌, ◌-◌, min, List, [], ◌∷◌, ◌++◌, map, length, flat_map, if◌then◌else◌, slice_get, Option, Some, None, option_and_then, option_map}
use Rattle.wasm_values.specs.Handles.{func_store, func_index, global_store, global_index, table_store, table_index, memory_store, memory_index}
use Rattle.wasm_values.specs.declared.store_id.StoreId.{StoreId}
use Rattle.wasm_values.specs.declared.externals.Extern.{Extern}
use Rattle.wasm_values.specs.declared.externals.Extern.TheVariants as x
use Rattle.wasm_objects.specs.Globals.{Global}
use Rattle.wasm_objects.specs.Tables.{Table}
use Rattle.wasm_objects.specs.declared.raw.RawRef.{RawRef}
use Rattle.wasm_objects.specs.declared.raw.RawRef.TheVariants as raw
use Rattle.wasm_objects.specs.declared.raw.RawVal.{RawVal}
use Rattle.wasm_objects.specs.declared.raw.RawVal.TheVariants as w
use Rattle.spec_machine.specs.Machine.{Machine, Function, guest, host, InstanceParts}
use Rattle.spec_machine.specs.Values.{is_id}
use Rattle.store_objects.specs.declared.node.Node.{Node}
use Rattle.store_objects.specs.declared.node.Node.TheVariants as node

-- the function in a reference and in a value; in a null, a number, and what is the host's own there is none
abbrev pub in_reference : RawRef → Option Node
in_reference (raw.Func n) = Some (node.Func n)
in_reference _ = None

abbrev pub in_value : RawVal → Option Node
in_value (w.Reference r) = in_reference r
in_value _ = None

-- an object of the store of this id; a tag is no node
abbrev pub of_store : StoreId → StoreId → Node → Option Node
of_store id store x = if is_id store id then Some x else None

abbrev pub in_object : StoreId → Extern → Option Node
in_object id (x.Func h) = of_store id (func_store h) (node.Func (func_index h))
in_object id (x.Global h) = of_store id (global_store h) (node.Global (global_index h))
in_object id (x.Table h) = of_store id (table_store h) (node.Table (table_index h))
in_object id (x.Memory h) = of_store id (memory_store h) (node.Memory (memory_index h))
in_object id (x.Tag h) = None

-- a function of an instance leads to the instance, one of the host to the objects that were stored with it
abbrev pub function_places : StoreId → Function → List (Option Node)
function_places id (guest n k) = Some (node.Instance n) ∷ []
function_places id (host ty body stored) = map (in_object id) stored

-- the functions in element segments
abbrev pub segment_places : List (List RawRef) → List (Option Node)
segment_places = flat_map (map in_reference)

-- what an instance names, by the numbers in the store
abbrev pub numbered : (ℕ → Node) → List ℕ → List (Option Node)
numbered kind = map (λ n. Some (kind n))

abbrev pub named_places : List ℕ → List ℕ → List ℕ → List ℕ → List (Option Node)
named_places functions tables memories globals =
    numbered node.Func functions ++ (numbered node.Table tables ++ (numbered node.Memory memories
    ++ numbered node.Global globals))

-- an instance leads to all that it names, and to the functions in its element segments
abbrev pub instance_places : InstanceParts → List (Option Node)
instance_places i = named_places i.functions i.tables i.memories i.globals ++ segment_places i.elements

abbrev pub where_there : {A : Type 0} → (A → List (Option Node)) → Option A → List (Option Node)
where_there leads None = []
where_there leads (Some a) = leads a

-- what stands at each place of an object: another object, or none
abbrev pub places : Machine → Node → List (Option Node)
places m (node.Func n) = where_there (function_places m.id) (slice_get m.functions n)
places m (node.Instance n) = where_there instance_places (slice_get m.instances n)
places m (node.Memory n) = []
places m (node.Table n) = where_there (λ (t : Table). map in_reference t.elements) (slice_get m.tables n)
places m (node.Global n) = where_there (λ (g : Global). in_value g.value ∷ []) (slice_get m.globals n)

-- how many places there are, as far as a number of 64 bits tells it: more would fit no memory
abbrev pub counted : ℕ → ℕ
counted n = min n (2 ^ 64 - 1)

abbrev pub link_count : Machine → Node → ℕ
link_count m x = counted (length (places m x))

-- the member at a place
abbrev pub member : Option (Option Node) → Option Node
member None = None
member (Some found) = found

abbrev pub link_at : Machine → Node → ℕ → Option Node
link_at m x place = member (slice_get (places m x) place)

-- of an element segment of an instance: how long it is, and the member at a place
abbrev pub element_segment : Machine → ℕ → ℕ → Option (List RawRef)
element_segment m n k = option_and_then (λ (i : InstanceParts). slice_get i.elements k) (slice_get m.instances n)

abbrev pub segment_len : Machine → ℕ → ℕ → Option ℕ
segment_len m n k = option_map length (element_segment m n k)

abbrev pub segment_item : Machine → ℕ → ℕ → ℕ → Option Node
segment_item m n k place =
    option_and_then (λ (items : List RawRef). member (slice_get (map in_reference items) place)) (element_segment m n k)
