-- What a name or an operand gives is a member, where all nodes that it gives are: so what a row names by them is.
use Rattle.std.proofs.Common.{◌≡◌, Bool, List, [], ◌∷◌, Option, Some, None, refl, ap, subst}
use Rattle.std.specs.Prelude.{flat_map, option_map, option_and_then}
use Rattle.std.proofs.lemmas.Option.{same_Some, none-some}
use Rattle.wasm_values.specs.Externals.{extern_func, extern_global, extern_table, extern_memory}
use Rattle.wasm_values.specs.declared.externals.Extern.{Extern}
use Rattle.wasm_values.specs.declared.externals.Extern.TheVariants as x
use Rattle.wasm_values.specs.declared.handles.Func.{Func}
use Rattle.wasm_values.specs.declared.handles.Global.{Global}
use Rattle.wasm_values.specs.declared.handles.Instance.{Instance}
use Rattle.wasm_values.specs.declared.handles.Memory.{Memory}
use Rattle.wasm_values.specs.declared.handles.Table.{Table}
use Rattle.wasm_values.specs.declared.store_id.StoreId.{StoreId}
use Rattle.wasm_values.specs.declared.values.Val.{Val}
use Rattle.wasm_values.specs.declared.values.Val.TheVariants as v
use Rattle.spec_machine.specs.Names.{Scope, Item, value, object, instance, resolve, val_object, item_object, item_value, item_instance, named_object, named_func, named_memory, named_table, named_global, named_instance, operand_value, with_first, named_objects, operand_values}
use Rattle.spec_machine.specs.declared.name.Name.{Name}
use Rattle.spec_machine.specs.declared.name.Operand.{Operand}
use Rattle.spec_machine.specs.declared.name.Operand.TheVariants as operand
use Rattle.spec_reach.specs.Nodes.{Node}
use Rattle.spec_reach.specs.Reach.{in_object, where_there}
use Rattle.spec_reach.specs.Roots.{in_instance, in_val, in_item, by_name, by_operand}
use Rattle.law_confined.proofs.AllMembers.{AllIn, all_in, all_front, all_back}

-- ---- what is found

-- a member that is found through an optional one
record Through {A B : Type 0} (f : A → Option B) (o : Option A) (y : B) : Type 0 where
  from : A
  found : o ≡ Some from
  leads : f from ≡ Some y

through : {A B : Type 0} (f : A → Option B) (o : Option A) (y : B) → option_and_then f o ≡ Some y → Through f o y
through f None y e = absurd (none-some y e)
through f (Some a) y e = record { from = a; found = refl; leads = e }

-- a list's first member and the rest
record FirstAnd {A : Type 0} (first : Option A) (rest : Option (List A)) (xs : List A) : Type 0 where
  one : A
  more : List A
  first_is : first ≡ Some one
  rest_is : rest ≡ Some more
  both : one ∷ more ≡ xs

first_and :
    {A : Type 0} (first : Option A) (rest : Option (List A)) (xs : List A) → with_first first rest ≡ Some xs
    → FirstAnd first rest xs
first_and None rest xs e = absurd (none-some xs e)
first_and (Some y) None xs e = absurd (none-some xs e)
first_and (Some y) (Some ys) xs e =
    record { one = y; more = ys; first_is = refl; rest_is = refl; both = same_Some (y ∷ ys) xs e }

-- an external value of a kind
func_is : (e : Extern) (h : Func) → extern_func e ≡ Some h → e ≡ x.Func h
func_is (x.Func f) h p = ap x.Func (same_Some f h p)
func_is _ h p = absurd (none-some h p)

global_is : (e : Extern) (h : Global) → extern_global e ≡ Some h → e ≡ x.Global h
global_is (x.Global f) h p = ap x.Global (same_Some f h p)
global_is _ h p = absurd (none-some h p)

table_is : (e : Extern) (h : Table) → extern_table e ≡ Some h → e ≡ x.Table h
table_is (x.Table f) h p = ap x.Table (same_Some f h p)
table_is _ h p = absurd (none-some h p)

memory_is : (e : Extern) (h : Memory) → extern_memory e ≡ Some h → e ≡ x.Memory h
memory_is (x.Memory f) h p = ap x.Memory (same_Some f h p)
memory_is _ h p = absurd (none-some h p)

module _ (M : Node → Bool) (id : StoreId) where
  abbrev ObjectIn : Extern → Type 0
  ObjectIn e = AllIn M (in_object id e)

  -- ---- what an item gives

  val_object_in : (val : Val) (e : Extern) → val_object val ≡ Some e → AllIn M (in_val id val) → ObjectIn e
  val_object_in (v.FuncRef (Some f)) e p h = subst ObjectIn (same_Some (x.Func f) e p) h
  val_object_in (v.FuncRef None) e p h = absurd (none-some e p)
  val_object_in _ e p h = absurd (none-some e p)

  item_object_in : (found : Item) (e : Extern) → item_object found ≡ Some e → AllIn M (in_item id found) → ObjectIn e
  item_object_in (value val) e p h = val_object_in val e p h
  item_object_in (object y) e p h = subst ObjectIn (same_Some y e p) h
  item_object_in (instance y) e p h = absurd (none-some e p)

  object_value_in :
      (y : Extern) (val : Val) → option_map (λ f. v.FuncRef (Some f)) (extern_func y) ≡ Some val → ObjectIn y
      → AllIn M (in_val id val)
  object_value_in (x.Func f) val p h =
      subst (λ z. AllIn M (in_val id z)) (same_Some (v.FuncRef (Some f)) val p) h
  object_value_in _ val p h = absurd (none-some val p)

  item_value_in :
      (found : Item) (val : Val) → item_value found ≡ Some val → AllIn M (in_item id found) → AllIn M (in_val id val)
  item_value_in (value y) val p h = subst (λ z. AllIn M (in_val id z)) (same_Some y val p) h
  item_value_in (object y) val p h = object_value_in y val p h
  item_value_in (instance y) val p h = absurd (none-some val p)

  item_instance_in :
      (found : Item) (h : Instance) → item_instance found ≡ Some h → AllIn M (in_item id found)
      → AllIn M (in_instance id h)
  item_instance_in (instance y) h p k = subst (λ z. AllIn M (in_instance id z)) (same_Some y h p) k
  item_instance_in _ h p k = absurd (none-some h p)

  -- ---- what a name gives

  module _ (s : Scope) where
    abbrev NameIn : Name → Type 0
    NameIn name = AllIn M (by_name id s name)

    found_in : (name : Name) (found : Item) → resolve s name ≡ Some found → NameIn name → AllIn M (in_item id found)
    found_in name found e h = subst (λ o. AllIn M (where_there o (in_item id))) e h

    object_in : (name : Name) (e : Extern) → named_object s name ≡ Some e → NameIn name → ObjectIn e
    object_in name e p h =
        let t : Through item_object (resolve s name) e = through item_object (resolve s name) e p in
        item_object_in t.from e t.leads (found_in name t.from t.found h)

    -- of one kind
    kind_in :
        {H : Type 0} (as_kind : Extern → Option H) (back : H → Extern)
        → ((e : Extern) (h : H) → as_kind e ≡ Some h → e ≡ back h) → (name : Name) (h : H)
        → option_and_then as_kind (named_object s name) ≡ Some h → NameIn name → ObjectIn (back h)
    kind_in as_kind back is name h p k =
        let t : Through as_kind (named_object s name) h = through as_kind (named_object s name) h p in
        subst ObjectIn (is t.from h t.leads) (object_in name t.from t.found k)

    pub func_in : (name : Name) (h : Func) → named_func s name ≡ Some h → NameIn name → ObjectIn (x.Func h)
    func_in name h p k = kind_in extern_func x.Func func_is name h p k

    pub memory_in : (name : Name) (h : Memory) → named_memory s name ≡ Some h → NameIn name → ObjectIn (x.Memory h)
    memory_in name h p k = kind_in extern_memory x.Memory memory_is name h p k

    pub table_in : (name : Name) (h : Table) → named_table s name ≡ Some h → NameIn name → ObjectIn (x.Table h)
    table_in name h p k = kind_in extern_table x.Table table_is name h p k

    pub global_in : (name : Name) (h : Global) → named_global s name ≡ Some h → NameIn name → ObjectIn (x.Global h)
    global_in name h p k = kind_in extern_global x.Global global_is name h p k

    pub instance_in :
        (name : Name) (h : Instance) → named_instance s name ≡ Some h → NameIn name → AllIn M (in_instance id h)
    instance_in name h p k =
        let t : Through item_instance (resolve s name) h = through item_instance (resolve s name) h p in
        item_instance_in t.from h t.leads (found_in name t.from t.found k)

    pub value_in :
        (given : Operand) (val : Val) → operand_value s given ≡ Some val → AllIn M (by_operand id s given)
        → AllIn M (in_val id val)
    value_in (operand.Val y) val p h = subst (λ z. AllIn M (in_val id z)) (same_Some y val p) h
    value_in (operand.Named name) val p h =
        let t : Through item_value (resolve s name) val = through item_value (resolve s name) val p in
        item_value_in t.from val t.leads (found_in name t.from t.found h)

    -- ---- what lists of them give

    pub objects_in :
        (names : List Name) (found : List Extern) → named_objects s names ≡ Some found
        → AllIn M (flat_map (by_name id s) names) → AllIn M (flat_map (in_object id) found)
    objects_in [] found p h = subst (λ ys. AllIn M (flat_map (in_object id) ys)) (same_Some [] found p) h
    objects_in (name ∷ names) found p h =
        let f : FirstAnd (named_object s name) (named_objects s names) found =
        first_and (named_object s name) (named_objects s names) found p in
        subst (λ ys. AllIn M (flat_map (in_object id) ys)) f.both
        (all_in M (in_object id f.one) (flat_map (in_object id) f.more)
        (object_in name f.one f.first_is (all_front M _ (flat_map (by_name id s) names) h))
        (objects_in names f.more f.rest_is (all_back M (by_name id s name) _ h)))

    pub values_in :
        (given : List Operand) (vals : List Val) → operand_values s given ≡ Some vals
        → AllIn M (flat_map (by_operand id s) given) → AllIn M (flat_map (in_val id) vals)
    values_in [] vals p h = subst (λ ys. AllIn M (flat_map (in_val id) ys)) (same_Some [] vals p) h
    values_in (one ∷ more) vals p h =
        let f : FirstAnd (operand_value s one) (operand_values s more) vals =
        first_and (operand_value s one) (operand_values s more) vals p in
        subst (λ ys. AllIn M (flat_map (in_val id) ys)) f.both
        (all_in M (in_val id f.one) (flat_map (in_val id) f.more)
        (value_in one f.one f.first_is (all_front M _ (flat_map (by_operand id s) more) h))
        (values_in more f.more f.rest_is (all_back M (by_operand id s one) _ h)))
