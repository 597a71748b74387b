-- Objects of the store as nodes from which reach goes, and nodes that were found as the code has them.
use Rattle.std.proofs.Common.{◌≡◌, ℕ, Bool, true, List, [], ◌∷◌, ◌++◌, Option, Some, None, refl, sym, ap, ◌∙◌, subst}
use Rattle.std.specs.List.{filter_map, list_all}
use Rattle.std.specs.Prelude.{flat_map, if◌then◌else◌, option_map, slice_get, IfOk, Result, Ok, Err}
use Rattle.std.proofs.lemmas.Bool.{and_parts}
use Rattle.wasm_types.specs.declared.faults.OutOfMemory.{OutOfMemory}
use Rattle.wasm_values.specs.Handles.{func_store, func_index, global_store, global_index, table_store, table_index, memory_store, memory_index}
use Rattle.wasm_values.specs.declared.externals.Extern.{Extern}
use Rattle.wasm_values.specs.declared.externals.Extern.TheVariants as x
use Rattle.wasm_values.specs.declared.store_id.StoreId.{StoreId}
use Rattle.spec_machine.specs.Machine.{Machine}
use Rattle.spec_machine.specs.Values.{is_id, owns_extern}
use Rattle.spec_reach.specs.Nodes.{Node as Reached, func, instance, memory, table, global}
use Rattle.spec_reach.specs.Reach.{of_store, in_object}
use Rattle.store_objects.specs.declared.node.Node.{Node}
use Rattle.store_objects.specs.declared.node.Node.TheVariants as node
use Rattle.wasm_store.specs.LinkLaws.{as_reached}
use Rattle.law_plugins.specs.Meeting.{is_common, common, reach_of, first_meeting}
use Rattle.store_reach.specs.Sets.{members_of, placed, IsReach}
use Rattle.wasm_plugins.specs.Guests.{of_reached}
use Rattle.wasm_plugins.specs.Meetings.{as_found, node_of, IsFirstOf}
use Rattle.wasm_plugins.proofs.MeetingLemmas.{first_reached, none_private}

own_node : (own store : StoreId) (n : Reached) → is_id store own ≡ true → n ∷ [] ≡ of_store own store n
own_node own store n e = sym (ap (λ (b : Bool). if b then n ∷ [] else []) e)

-- an object of the store leads to its node
owned_node : (m : Machine) (y : Extern) → owns_extern m y ≡ true → placed (node_of y) ≡ in_object m.id y
owned_node m (x.Func h) e = own_node m.id (func_store h) (func (func_index h)) (and_parts _ _ e).0
owned_node m (x.Global h) e = own_node m.id (global_store h) (global (global_index h)) (and_parts _ _ e).0
owned_node m (x.Table h) e = own_node m.id (table_store h) (table (table_index h)) (and_parts _ _ e).0
owned_node m (x.Memory h) e = own_node m.id (memory_store h) (memory (memory_index h)) (and_parts _ _ e).0
owned_node m (x.Tag h) e = refl

-- of one object more
one_more :
    (y : Extern) (ys : List Extern)
    → members_of (filter_map node_of (y ∷ ys)) ≡ placed (node_of y) ++ members_of (filter_map node_of ys)
one_more (x.Func h) ys = refl
one_more (x.Global h) ys = refl
one_more (x.Table h) ys = refl
one_more (x.Memory h) ys = refl
one_more (x.Tag h) ys = refl

pub roots_are :
    (m : Machine) (objects : List Extern) → list_all (owns_extern m) objects ≡ true
    → members_of (filter_map node_of objects) ≡ flat_map (in_object m.id) objects
roots_are m [] e = refl
roots_are m (y ∷ ys) e =
    let q = and_parts (owns_extern m y) (list_all (owns_extern m) ys) e in
    one_more y ys
    ∙ ap (λ (l : List Reached). l ++ members_of (filter_map node_of ys)) (owned_node m y q.0)
    ∙ ap (λ (l : List Reached). in_object m.id y ++ l) (roots_are m ys q.1)

-- ---- what was found

and_back : (n : Node) → n ≡ of_reached (as_reached n)
and_back (node.Func n) = refl
and_back (node.Instance n) = refl
and_back (node.Memory n) = refl
and_back (node.Table n) = refl
and_back (node.Global n) = refl

pub found_is :
    (place : ℕ) (n : Node) (found : Option (ℕ × Reached)) → Some (place, as_reached n) ≡ found
    → Some (place, n) ≡ option_map as_found found
found_is place n found e =
    ap (λ (k : Node). let p : ℕ × Node = (place, k) in Some p) (and_back n) ∙ ap (option_map as_found) e

-- the first node that a guest reaches and that is in common, where there was memory to look
pub met_first :
    (m : Machine) (set own : List Reached) (guest : ℕ) (r : Result (Option Node) OutOfMemory)
    → IsReach m (instance guest ∷ []) own
    → IfOk r (λ f. IsFirstOf (is_common m set own) own (option_map as_reached f))
    → IfOk r (λ f. option_map as_reached f ≡ slice_get (common m set (reach_of m guest)) 0)
met_first m set own guest (Ok f) same h = first_reached m set own guest (option_map as_reached f) same h
met_first m set own guest (Err e) same h = h

-- nothing private is in a set
pub none_due :
    (m n : Machine) (set : List Reached) (guests : List ℕ) (first : Option Node) → n ≡ m → first ≡ None
    → IsFirstOf (is_common n set set) set (option_map as_reached first)
    → None ≡ option_map as_found (first_meeting m set guests)
none_due m n set guests first e f h =
    ap (option_map as_found)
    (none_private m set
    (subst (λ (k : Machine). IsFirstOf (is_common k set set) set None) e
    (subst (λ (o : Option Node). IsFirstOf (is_common n set set) set (option_map as_reached o)) f h)) guests)
