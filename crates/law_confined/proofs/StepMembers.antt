-- Each step of a host's call, beside the same step in another store: what it looks up is a member and is the same there, and
-- its tests come to the same.
use Rattle.std.proofs.Common.{◌≡◌, Bool, true, false, List, [], ◌∷◌, Option, Some, None, refl, sym, ap, ◌∙◌, subst}
use Rattle.std.specs.Prelude.{◌&&◌, flat_map, if◌then◌else◌, slice_get, Result, Ok, Err}
use Rattle.std.specs.List.{list_all}
use Rattle.std.specs.Option.{ok_or}
use Rattle.std.proofs.lemmas.Bool.{and_parts}
use Rattle.wasm_types.specs.FunctionParts.{ref_type}
use Rattle.wasm_types.specs.Matching.{ref_matches, val_matches}
use Rattle.wasm_types.specs.Signatures.{Signature}
use Rattle.wasm_types.specs.declared.value_types.RefType.{RefType}
use Rattle.wasm_types.specs.declared.value_types.ValType.{ValType}
use Rattle.wasm_types.specs.declared.value_types.ValType.TheVariants as t
use Rattle.wasm_values.specs.Handles.{func_store, func_index, global_store, global_index, table_store, table_index, memory_store, memory_index, instance_store, instance_index}
use Rattle.wasm_values.specs.Values.{val_ref}
use Rattle.wasm_values.specs.declared.externals.Extern.TheVariants as x
use Rattle.wasm_values.specs.declared.handles.Func.{Func}
use Rattle.wasm_values.specs.declared.handles.Global.{Global as GlobalHandle}
use Rattle.wasm_values.specs.declared.handles.Instance.{Instance}
use Rattle.wasm_values.specs.declared.handles.Memory.{Memory as MemoryHandle}
use Rattle.wasm_values.specs.declared.handles.Table.{Table as TableHandle}
use Rattle.wasm_values.specs.declared.references.Ref.TheVariants as r
use Rattle.wasm_values.specs.declared.refusals.Refusal.{Refusal}
use Rattle.wasm_values.specs.declared.refusals.Refusal.TheVariants.{WrongStore}
use Rattle.wasm_values.specs.declared.store_id.StoreId.{StoreId}
use Rattle.wasm_values.specs.declared.values.Val.{Val}
use Rattle.wasm_values.specs.declared.values.Val.TheVariants as v
use Rattle.spec_machine.specs.GlobalCalls.{global_at}
use Rattle.spec_machine.specs.InstanceCalls.{instance_at}
use Rattle.spec_machine.specs.Machine.{Machine}
use Rattle.spec_machine.specs.MemoryCalls.{memory_at}
use Rattle.spec_machine.specs.Steps.{◌>>=◌, unless}
use Rattle.spec_machine.specs.TableCalls.{table_at, owns_given, given_fits}
use Rattle.spec_machine.specs.ValueCalls.{func_ty}
use Rattle.spec_machine.specs.Values.{is_id, function_type, concrete, type_of_ref, least_type, val_fits, all_fit, owns_func_ref, owns_val}
use Rattle.spec_reach.specs.Nodes.{Node, func, instance, memory, table, global}
use Rattle.spec_reach.specs.Reach.{of_store, in_object}
use Rattle.spec_reach.specs.Roots.{in_instance, in_val}
use Rattle.law_confined.specs.Members.{IsMember, IsIn}
use Rattle.law_confined.proofs.AllMembers.{AllIn, all_front, all_back, own_in}
use Rattle.law_confined.proofs.CountMembers.{owned_is, member_type}
use Rattle.law_confined.proofs.NewMembers.{SeesNew}
use Rattle.law_confined.proofs.OtherStores.{Sees}

-- a step comes to the same in both stores, and where it comes to something this holds of it
pub record Gives {A : Type 0} (S : A → Type 0) (r r' : Result A Refusal) : Type 0 where
  pub same : r' ≡ r
  pub says : (a : A) → r ≡ Ok a → S a

-- a step comes to things that are related, or is refused in both
abbrev Pair : {A : Type 0} → (A → A → Type 0) → Result A Refusal → Result A Refusal → Type 0
Pair R (Ok a) (Ok a') = R a a'
Pair R (Err why) (Err why') = why' ≡ why
Pair R r r' = ⊥

pub record Comes {A : Type 0} (R : A → A → Type 0) (r r' : Result A Refusal) : Type 0 where
  pub by : Pair R r r'

-- ---- steps one after another

module _ {A B : Type 0} (S : A → Type 0) (f f' : A → Result B Refusal) where
  pub gives_then :
      (T : B → Type 0) (r r' : Result A Refusal) → Gives S r r' → ((a : A) → S a → Gives T (f a) (f' a))
      → Gives T (r >>= f) (r' >>= f')
  gives_then T r r' g k = subst (λ z. Gives T (r >>= f) (z >>= f')) (sym g.same) (by r g.says)
    where
      by : (z : Result A Refusal) → ((a : A) → z ≡ Ok a → S a) → Gives T (z >>= f) (z >>= f')
      by (Ok a) s = k a (s a refl)
      by (Err why) s = record { same = refl; says = λ b e. absurd cc }

  pub comes_then :
      (R : B → B → Type 0) (r r' : Result A Refusal) → Gives S r r' → ((a : A) → S a → Comes R (f a) (f' a))
      → Comes R (r >>= f) (r' >>= f')
  comes_then R r r' g k = subst (λ z. Comes R (r >>= f) (z >>= f')) (sym g.same) (by r g.says)
    where
      by : (z : Result A Refusal) → ((a : A) → z ≡ Ok a → S a) → Comes R (z >>= f) (z >>= f')
      by (Ok a) s = k a (s a refl)
      by (Err why) s = record { by = refl }

ok_is : {A : Type 0} (a b : A) → ◌≡◌ {A = Result A Refusal} (Ok a) (Ok b) → a ≡ b
ok_is a b e = cc

-- what a step comes to in the end
pub ends : {A : Type 0} (S : A → Type 0) (a a' : A) → a' ≡ a → S a → Gives S (Ok a) (Ok a')
ends S a a' e s = record { same = ap Ok e; says = λ b q. subst S (ok_is a b q) s }

-- a test
pub test_gives : (why : Refusal) (b b' : Bool) → b' ≡ b → Gives (λ _. b ≡ true) (unless why b) (unless why b')
test_gives why b b' e =
    subst (λ c. Gives (λ _. b ≡ true) (unless why b) (unless why c)) (sym e) (by b)
  where
    by : (c : Bool) → Gives (λ _. c ≡ true) (unless why c) (unless why c)
    by true = record { same = refl; says = λ a q. refl }
    by false = record { same = refl; says = λ a q. absurd cc }

module _ (M : Node → Bool) (first : Machine) (other : Machine → Machine) (sees : Sees M first other)
    (news : SeesNew M first other) (m : Machine) (h : IsIn M first m) where
  -- ---- what a handle stands for

  -- it is a member, and is there
  abbrev pub IsFound : {A : Type 0} → Node → Option A → A → Type 0
  IsFound y o a = IsMember M y × (o ≡ Some a)

  module _ {A : Type 0} (y : Node) where
    looked_up : IsMember M y → (o : Option A) → Gives (IsFound y o) (ok_or o WrongStore) (ok_or o WrongStore)
    looked_up k (Some a) = record { same = refl; says = λ c q. (k, ap Some (ok_is a c q)) }
    looked_up k None = record { same = refl; says = λ c q. absurd cc }

    found_by :
        (b : Bool) (o o' : Option A) → (b ≡ true → IsMember M y) → (IsMember M y → o' ≡ o)
        → Gives (IsFound y o) (if b then ok_or o WrongStore else Err WrongStore)
        (if b then ok_or o' WrongStore else Err WrongStore)
    found_by true o o' k e =
        subst (λ z. Gives (IsFound y o) (ok_or o WrongStore) (ok_or z WrongStore)) (sym (e (k refl)))
        (looked_up (k refl) o)
    found_by false o o' k e = record { same = refl; says = λ c q. absurd cc }

  found :
      {A : Type 0} (store : StoreId) (y : Node) (o o' : Option A) → AllIn M (of_store m.id store y)
      → (IsMember M y → o' ≡ o)
      → Gives (IsFound y o) (if is_id store m.id then ok_or o WrongStore else Err WrongStore)
      (if is_id store (other m).id then ok_or o' WrongStore else Err WrongStore)
  found store y o o' k e =
      subst (λ i. Gives (IsFound y o) (if is_id store m.id then ok_or o WrongStore else Err WrongStore)
      (if is_id store i then ok_or o' WrongStore else Err WrongStore)) (sym (news.same m h).id)
      (found_by y (is_id store m.id) o o' (λ q. own_in M m.id store y q k) e)

  pub memory_gives :
      (y : MemoryHandle) → AllIn M (in_object m.id (x.Memory y))
      → Gives (IsFound (memory (memory_index y)) (slice_get m.memories (memory_index y))) (memory_at m y)
      (memory_at (other m) y)
  memory_gives y k =
      found (memory_store y) (memory (memory_index y)) (slice_get m.memories (memory_index y))
      (slice_get (other m).memories (memory_index y)) k (λ q. sees.memories m (memory_index y) h q)

  pub table_gives :
      (y : TableHandle) → AllIn M (in_object m.id (x.Table y))
      → Gives (IsFound (table (table_index y)) (slice_get m.tables (table_index y))) (table_at m y) (table_at (other m) y)
  table_gives y k =
      found (table_store y) (table (table_index y)) (slice_get m.tables (table_index y))
      (slice_get (other m).tables (table_index y)) k (λ q. sees.tables m (table_index y) h q)

  pub global_gives :
      (y : GlobalHandle) → AllIn M (in_object m.id (x.Global y))
      → Gives (IsFound (global (global_index y)) (slice_get m.globals (global_index y))) (global_at m y)
      (global_at (other m) y)
  global_gives y k =
      found (global_store y) (global (global_index y)) (slice_get m.globals (global_index y))
      (slice_get (other m).globals (global_index y)) k (λ q. sees.globals m (global_index y) h q)

  pub instance_gives :
      (y : Instance) → AllIn M (in_instance m.id y)
      → Gives (IsFound (instance (instance_index y)) (slice_get m.instances (instance_index y))) (instance_at m y)
      (instance_at (other m) y)
  instance_gives y k =
      found (instance_store y) (instance (instance_index y)) (slice_get m.instances (instance_index y))
      (slice_get (other m).instances (instance_index y)) k (λ q. sees.instances m (instance_index y) h q)

  pub function_gives :
      (f : Func) → AllIn M (in_object m.id (x.Func f))
      → Gives (IsFound (func (func_index f)) (function_type m (func_index f))) (func_ty m f) (func_ty (other m) f)
  function_gives f k =
      found (func_store f) (func (func_index f)) (function_type m (func_index f))
      (function_type (other m) (func_index f)) k
      (λ q. member_type M first other sees news m h (func_index f) q)

  -- ---- the tests of values

  own_func : (f : Option Func) → owns_func_ref (other m) f ≡ owns_func_ref m f
  own_func None = refl
  own_func (Some f) = owned_is M first other sees news m h (x.Func f)

  pub own_val : (val : Val) → owns_val (other m) val ≡ owns_val m val
  own_val (v.FuncRef f) = own_func f
  own_val (v.I32 n) = refl
  own_val (v.I64 n) = refl
  own_val (v.F32 n) = refl
  own_val (v.F64 n) = refl
  own_val (v.V128 n) = refl
  own_val (v.ExternRef y) = refl
  own_val (v.AnyRef y) = refl

  pub own_given : (val : Val) → owns_given (other m) (val_ref val) ≡ owns_given m (val_ref val)
  own_given (v.FuncRef f) = own_func f
  own_given (v.I32 n) = refl
  own_given (v.I64 n) = refl
  own_given (v.F32 n) = refl
  own_given (v.F64 n) = refl
  own_given (v.V128 n) = refl
  own_given (v.ExternRef y) = refl
  own_given (v.AnyRef y) = refl

  pub own_all : (vals : List Val) → list_all (owns_val (other m)) vals ≡ list_all (owns_val m) vals
  own_all [] = refl
  own_all (val ∷ vals) =
      ap (λ b. b && list_all (owns_val (other m)) vals) (own_val val) ∙ ap (λ b. owns_val m val && b) (own_all vals)

  -- the type of a reference to a function that is the store's own
  func_type_is :
      (f : Option Func) → owns_func_ref m f ≡ true → AllIn M (in_val m.id (v.FuncRef f))
      → type_of_ref (other m) (r.Func f) ≡ type_of_ref m (r.Func f)
  func_type_is None e k = refl
  func_type_is (Some f) e k =
      ap (λ (s : Option Signature). ref_type false (concrete s))
      (member_type M first other sees news m h (func_index f)
      (own_in M m.id (func_store f) (func (func_index f)) (and_parts _ _ e).0 k))

  least_is : (val : Val) → owns_val m val ≡ true → AllIn M (in_val m.id val) → least_type (other m) val ≡ least_type m val
  least_is (v.FuncRef f) e k = ap t.Ref (func_type_is f e k)
  least_is (v.I32 n) e k = refl
  least_is (v.I64 n) e k = refl
  least_is (v.F32 n) e k = refl
  least_is (v.F64 n) e k = refl
  least_is (v.V128 n) e k = refl
  least_is (v.ExternRef None) e k = refl
  least_is (v.ExternRef (Some y)) e k = refl
  least_is (v.AnyRef None) e k = refl
  least_is (v.AnyRef (Some y)) e k = refl

  pub fits_is :
      (val : Val) (ty : ValType) → owns_val m val ≡ true → AllIn M (in_val m.id val)
      → val_fits (other m) val ty ≡ val_fits m val ty
  fits_is val ty e k = ap (λ own. val_matches own ty) (least_is val e k)

  pub given_fits_is :
      (val : Val) (ty : RefType) → owns_given m (val_ref val) ≡ true → AllIn M (in_val m.id val)
      → given_fits (other m) (val_ref val) ty ≡ given_fits m (val_ref val) ty
  given_fits_is (v.FuncRef f) ty e k = ap (λ own. ref_matches own ty) (func_type_is f e k)
  given_fits_is (v.I32 n) ty e k = refl
  given_fits_is (v.I64 n) ty e k = refl
  given_fits_is (v.F32 n) ty e k = refl
  given_fits_is (v.F64 n) ty e k = refl
  given_fits_is (v.V128 n) ty e k = refl
  given_fits_is (v.ExternRef None) ty e k = refl
  given_fits_is (v.ExternRef (Some y)) ty e k = refl
  given_fits_is (v.AnyRef None) ty e k = refl
  given_fits_is (v.AnyRef (Some y)) ty e k = refl

  pub all_fits_is :
      (vals : List Val) (tys : List ValType) → list_all (owns_val m) vals ≡ true → AllIn M (flat_map (in_val m.id) vals)
      → all_fit (other m) vals tys ≡ all_fit m vals tys
  all_fits_is [] [] e k = refl
  all_fits_is [] (ty ∷ tys) e k = refl
  all_fits_is (val ∷ vals) [] e k = refl
  all_fits_is (val ∷ vals) (ty ∷ tys) e k =
      let own = and_parts (owns_val m val) (list_all (owns_val m) vals) e in
      ap (λ b. b && all_fit (other m) vals tys)
      (fits_is val ty own.0 (all_front M (in_val m.id val) (flat_map (in_val m.id) vals) k))
      ∙ ap (λ b. val_fits m val ty && b)
      (all_fits_is vals tys own.1 (all_back M (in_val m.id val) (flat_map (in_val m.id) vals) k))
