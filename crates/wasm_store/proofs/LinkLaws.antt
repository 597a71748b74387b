-- What a host reads of links is that by which reach goes.
use Rattle.std.proofs.Common.{◌≡◌, ◌⊎◌, ℕ, zero, suc, Bool, true, false, List, [], ◌∷◌, ◌++◌, map, slice_get, Some, None, refl, sym, ap, ◌∙◌, subst, inl, inr}
use Rattle.std.specs.Prelude.{◌||◌, flat_map, if◌then◌else◌, Option}
use Rattle.std.proofs.lemmas.Bool.{false≢true, eqb-true, or_cases, or_left, or_right}
use Rattle.std.proofs.lemmas.Option.{same_Some, none-some}
use Rattle.wasm_values.specs.declared.externals.Extern.{Extern}
use Rattle.wasm_values.specs.declared.externals.Extern.TheVariants as x
use Rattle.wasm_values.specs.declared.store_id.StoreId.{StoreId}
use Rattle.wasm_values.specs.Handles.{func_store, func_index, global_store, global_index, table_store, table_index, memory_store, memory_index}
use Rattle.wasm_objects.specs.Globals.{Global}
use Rattle.wasm_objects.specs.Tables.{Table}
use Rattle.wasm_objects.specs.declared.raw.RawRef.{RawRef}
use Rattle.wasm_objects.specs.declared.raw.RawRef.TheVariants as raw
use Rattle.wasm_objects.specs.declared.raw.RawVal.{RawVal}
use Rattle.wasm_objects.specs.declared.raw.RawVal.TheVariants as w
use Rattle.spec_machine.specs.Machine.{Machine, Function, guest, host, InstanceParts}
use Rattle.spec_machine.specs.Values.{is_id}
use Rattle.spec_reach.proofs.FilterLemmas.{same_own, same_is, has_front, has_back, has_either}
use Rattle.spec_reach.specs.Nodes.{Node as Reached, func, instance, memory, table, global, same_node, has}
use Rattle.spec_reach.specs.Reach as reach
use Rattle.store_objects.specs.Links.{in_reference, in_value, of_store, in_object, function_places, segment_places, numbered, named_places, instance_places, where_there, places, member, link_at}
use Rattle.store_objects.specs.declared.node.Node.{Node}
use Rattle.store_objects.specs.declared.node.Node.TheVariants as node
use Rattle.wasm_store.specs.LinkLaws.{as_reached, LinksLeadOn}

-- ---- the members at places, as a list

abbrev pub one : Option Node → List Reached
one None = []
one (Some x) = as_reached x ∷ []

abbrev pub members : List (Option Node) → List Reached
members = flat_map one

same_named : (a b : Node) → same_node (as_reached a) (as_reached b) ≡ true → a ≡ b
same_named (node.Func a) (node.Func b) e = ap node.Func (eqb-true a b e)
same_named (node.Instance a) (node.Instance b) e = ap node.Instance (eqb-true a b e)
same_named (node.Memory a) (node.Memory b) e = ap node.Memory (eqb-true a b e)
same_named (node.Table a) (node.Table b) e = ap node.Table (eqb-true a b e)
same_named (node.Global a) (node.Global b) e = ap node.Global (eqb-true a b e)
same_named _ _ e = absurd (false≢true e)

-- a member stands at some place
in_one : (o : Option Node) (to : Node) → has (one o) (as_reached to) ≡ true → o ≡ Some to
in_one None to e = absurd (false≢true e)
in_one (Some x) to e =
    elim (or_cases (same_node (as_reached to) (as_reached x)) false e) [
      | inl h ↦ ap Some (sym (same_named to x h))
      | inr h ↦ absurd (false≢true h)
    ]

pub placed : (xs : List (Option Node)) (to : Node) → has (members xs) (as_reached to) ≡ true →
    (place : ℕ) × (member (slice_get xs place) ≡ Some to)
placed [] to e = absurd (false≢true e)
placed (o ∷ xs) to e =
    elim (has_either (one o) (members xs) (as_reached to) e) [
      | inl h ↦ (0, in_one o to h)
      | inr h ↦ (suc (placed xs to h).0, (placed xs to h).1)
    ]

pub is_member : (xs : List (Option Node)) (to : Node) (place : ℕ) → member (slice_get xs place) ≡ Some to →
    has (members xs) (as_reached to) ≡ true
is_member [] to place e = absurd (none-some to e)
is_member (o ∷ xs) to zero e =
    has_front (one o) (members xs) (as_reached to)
    (subst (λ (p : Option Node). has (one p) (as_reached to) ≡ true) (sym e)
    (or_left (same_node (as_reached to) (as_reached to)) false (same_own (as_reached to))))
is_member (o ∷ xs) to (suc place) e = has_back (one o) (members xs) (as_reached to) (is_member xs to place e)

-- ---- lists of members, part by part

apart : {a b c d : List Reached} → a ≡ c → b ≡ d → (a ++ b) ≡ (c ++ d)
apart {a} {b} {c} {d} e f = ap (λ (l : List Reached). l ++ b) e ∙ ap (λ (l : List Reached). c ++ l) f

no_more : (xs : List Reached) → (xs ++ []) ≡ xs
no_more [] = refl
no_more (x ∷ xs) = ap (λ (l : List Reached). x ∷ l) (no_more xs)

append_more : (xs ys zs : List Reached) → (xs ++ (ys ++ zs)) ≡ ((xs ++ ys) ++ zs)
append_more [] ys zs = refl
append_more (x ∷ xs) ys zs = ap (λ (l : List Reached). x ∷ l) (append_more xs ys zs)

members_append : (xs ys : List (Option Node)) → members (xs ++ ys) ≡ members xs ++ members ys
members_append [] ys = refl
members_append (o ∷ xs) ys =
    ap (λ (l : List Reached). one o ++ l) (members_append xs ys) ∙ append_more (one o) (members xs) (members ys)

-- of each item one at most
members_map : {A : Type 0} (f : A → Option Node) (g : A → List Reached) → ((a : A) → one (f a) ≡ g a) →
    (xs : List A) → members (map f xs) ≡ flat_map g xs
members_map f g h [] = refl
members_map f g h (a ∷ xs) =
    ap (λ (l : List Reached). l ++ members (map f xs)) (h a) ∙ ap (λ (l : List Reached). g a ++ l) (members_map f g h xs)

one_reference : (r : RawRef) → one (in_reference r) ≡ reach.in_reference r
one_reference raw.Null = refl
one_reference (raw.Func n) = refl
one_reference (raw.Extern n) = refl
one_reference (raw.I31 n) = refl

one_value : (v : RawVal) → one (in_value v) ≡ reach.in_value v
one_value (w.Reference r) = one_reference r
one_value (w.I32 n) = refl
one_value (w.I64 n) = refl
one_value (w.F32 n) = refl
one_value (w.F64 n) = refl
one_value (w.V128 n) = refl

one_of_store : (b : Bool) (x : Node) → one (if b then Some x else None) ≡ (if b then as_reached x ∷ [] else [])
one_of_store true x = refl
one_of_store false x = refl

one_object : (id : StoreId) (o : Extern) → one (in_object id o) ≡ reach.in_object id o
one_object id (x.Func h) = one_of_store (is_id (func_store h) id) (node.Func (func_index h))
one_object id (x.Global h) = one_of_store (is_id (global_store h) id) (node.Global (global_index h))
one_object id (x.Table h) = one_of_store (is_id (table_store h) id) (node.Table (table_index h))
one_object id (x.Memory h) = one_of_store (is_id (memory_store h) id) (node.Memory (memory_index h))
one_object id (x.Tag h) = refl

in_references : (refs : List RawRef) → members (map in_reference refs) ≡ reach.in_references refs
in_references = members_map in_reference reach.in_reference one_reference

in_segments : (segments : List (List RawRef)) → members (segment_places segments) ≡ flat_map reach.in_references segments
in_segments [] = refl
in_segments (s ∷ segments) =
    members_append (map in_reference s) (segment_places segments)
    ∙ (ap (λ (l : List Reached). l ++ members (segment_places segments)) (in_references s)
    ∙ ap (λ (l : List Reached). reach.in_references s ++ l) (in_segments segments))

in_numbers : (kind : ℕ → Node) (xs : List ℕ) → members (numbered kind xs) ≡ map (λ n. as_reached (kind n)) xs
in_numbers kind [] = refl
in_numbers kind (n ∷ xs) = ap (λ (l : List Reached). as_reached (kind n) ∷ l) (in_numbers kind xs)

-- ---- each object leads to the same

or_order : (a t m g s : Bool) → ((a || (t || (m || g))) || s) ≡ (a || (m || (t || (g || s))))
or_order true t m g s = refl
or_order false true true g s = refl
or_order false true false g s = refl
or_order false false true g s = refl
or_order false false false g s = refl

or_more : (a b c : Bool) → (a || (b || c)) ≡ ((a || b) || c)
or_more true b c = refl
or_more false b c = refl

has_append : (xs ys : List Reached) (y : Reached) → has (xs ++ ys) y ≡ (has xs y || has ys y)
has_append [] ys y = refl
has_append (z ∷ xs) ys y =
    ap (λ (b : Bool). same_node y z || b) (has_append xs ys y) ∙ or_more (same_node y z) (has xs y) (has ys y)

-- five lists, in the order of places and in that of links
module _ (a t m g s : List Reached) (y : Reached) where
  places_order : has ((a ++ (t ++ (m ++ g))) ++ s) y ≡ ((has a y || (has t y || (has m y || has g y))) || has s y)
  places_order =
      has_append (a ++ (t ++ (m ++ g))) s y
      ∙ ap (λ (b : Bool). b || has s y) (has_append a (t ++ (m ++ g)) y
      ∙ ap (λ (b : Bool). has a y || b) (has_append t (m ++ g) y
      ∙ ap (λ (b : Bool). has t y || b) (has_append m g y)))

  links_order : has (a ++ (m ++ (t ++ (g ++ s)))) y ≡ (has a y || (has m y || (has t y || (has g y || has s y))))
  links_order =
      has_append a (m ++ (t ++ (g ++ s))) y
      ∙ ap (λ (b : Bool). has a y || b) (has_append m (t ++ (g ++ s)) y
      ∙ ap (λ (b : Bool). has m y || b) (has_append t (g ++ s) y
      ∙ ap (λ (b : Bool). has t y || b) (has_append g s y)))

  same_order : has ((a ++ (t ++ (m ++ g))) ++ s) y ≡ has (a ++ (m ++ (t ++ (g ++ s)))) y
  same_order = places_order ∙ (or_order (has a y) (has t y) (has m y) (has g y) (has s y) ∙ sym links_order)

in_named : (functions tables memories globals : List ℕ) → members (named_places functions tables memories globals)
    ≡ map func functions ++ (map table tables ++ (map memory memories ++ map global globals))
in_named functions tables memories globals =
    members_append (numbered node.Func functions)
    (numbered node.Table tables ++ (numbered node.Memory memories ++ numbered node.Global globals))
    ∙ apart (in_numbers node.Func functions)
    (members_append (numbered node.Table tables) (numbered node.Memory memories ++ numbered node.Global globals)
    ∙ apart (in_numbers node.Table tables)
    (members_append (numbered node.Memory memories) (numbered node.Global globals)
    ∙ apart (in_numbers node.Memory memories) (in_numbers node.Global globals)))

in_instance : (i : InstanceParts) (y : Reached) → has (members (instance_places i)) y ≡ has (reach.from_instance i) y
in_instance i y =
    ap (λ (l : List Reached). has l y) (members_append (named_places i.functions i.tables i.memories i.globals)
    (segment_places i.elements)
    ∙ apart (in_named i.functions i.tables i.memories i.globals) (in_segments i.elements))
    ∙ same_order (map func i.functions) (map table i.tables) (map memory i.memories) (map global i.globals)
    (flat_map reach.in_references i.elements) y

in_function : (id : StoreId) (f : Function) → members (function_places id f) ≡ reach.from_function id f
in_function id (guest n k) = refl
in_function id (host ty body stored) = members_map (in_object id) (reach.in_object id) (one_object id) stored

in_table : (t : Table) → members (map in_reference t.elements) ≡ reach.in_references t.elements
in_table t = in_references t.elements

in_global : (v : RawVal) → members (in_value v ∷ []) ≡ reach.in_value v
in_global v = ap (λ (l : List Reached). l ++ []) (one_value v) ∙ no_more (reach.in_value v)

found : {A : Type 0} (f : A → List (Option Node)) (g : A → List Reached) (y : Reached) →
    ((a : A) → has (members (f a)) y ≡ has (g a) y) → (o : Option A) →
    has (members (where_there f o)) y ≡ has (reach.where_there o g) y
found f g y h None = refl
found f g y h (Some a) = h a

same_members : (m : Machine) (from : Node) (y : Reached) →
    has (members (places m from)) y ≡ has (reach.links m (as_reached from)) y
same_members m (node.Func n) y =
    found (function_places m.id) (reach.from_function m.id) y
    (λ (f : Function). ap (λ (l : List Reached). has l y) (in_function m.id f)) (slice_get m.functions n)
same_members m (node.Instance n) y =
    found instance_places reach.from_instance y (λ (i : InstanceParts). in_instance i y) (slice_get m.instances n)
same_members m (node.Memory n) y = refl
same_members m (node.Table n) y =
    found (λ (t : Table). map in_reference t.elements) (λ (t : Table). reach.in_references t.elements) y
    (λ (t : Table). ap (λ (l : List Reached). has l y) (in_table t)) (slice_get m.tables n)
same_members m (node.Global n) y =
    found (λ (g : Global). in_value g.value ∷ []) (λ (g : Global). reach.in_value g.value) y
    (λ (g : Global). ap (λ (l : List Reached). has l y) (in_global g.value)) (slice_get m.globals n)

pub links_lead_on : LinksLeadOn
links_lead_on m from to = (
  λ h. placed (places m from) to (same_members m from (as_reached to) ∙ h),
  λ h. sym (same_members m from (as_reached to)) ∙ is_member (places m from) to h.0 h.1,
)
