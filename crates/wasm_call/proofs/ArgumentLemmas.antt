-- A call for whose arguments there is no list: the refusal that is due, by what is looked at one by one.
use Rattle.std.proofs.Common.{◌≡◌, ℕ, ◌+◌, ◌<◌, ◌≤◌, arith, Bool, true, false, ◌&&◌, if◌then◌else◌, List, [], ◌∷◌, length, get_or, drop, Option, Some, None, Result, Ok, Err, refl, sym, ap, ◌∙◌, subst, suc, map, inl}
use Rattle.std.proofs.lemmas.Bool.Decides.{nat_tests}
use Rattle.std.proofs.lemmas.Grind.{common_steps}
use Rattle.std.specs.List.{list_all}
use Rattle.std.specs.Option.{ok_or}
use Rattle.std.specs.Prelude.{is_some, nat_eq, IfOk}
use Rattle.wasm_types.specs.FunctionParts.{params, results, ref_type}
use Rattle.wasm_types.specs.Matching.{val_matches}
use Rattle.wasm_types.specs.Signatures.{Signature}
use Rattle.wasm_types.specs.declared.faults.OutOfMemory.{OutOfMemory as NoMemory}
use Rattle.wasm_types.specs.declared.value_types.ValType.{ValType}
use Rattle.wasm_types.specs.declared.value_types.ValType.TheVariants as kind
use Rattle.wasm_values.specs.Handles.{func_store, func_index}
use Rattle.wasm_values.specs.declared.handles.Func.{Func}
use Rattle.wasm_values.specs.declared.refusals.Refusal.{Refusal}
use Rattle.wasm_values.specs.declared.refusals.Refusal.TheVariants.{NoReply, WrongStore, ArgumentCount, ResultCount, TypeMismatch}
use Rattle.wasm_values.specs.declared.store_id.StoreId.{StoreId}
use Rattle.wasm_values.specs.declared.values.Val.{Val}
use Rattle.wasm_values.specs.declared.values.Val.TheVariants as v
use Rattle.spec_machine.specs.Commands.{Row, Refuse, named, invokes, operation}
use Rattle.spec_machine.specs.FunctionCalls.{Called, called, is_count}
use Rattle.spec_machine.specs.Machine.{Machine}
use Rattle.spec_machine.specs.Names.{Scope, named_func, operand_value, operand_values, with_first}
use Rattle.spec_machine.specs.Steps.{◌>>=◌, unless}
use Rattle.spec_machine.specs.ValueCalls.{func_ty}
use Rattle.spec_machine.specs.Values.{is_id, owns_val, all_fit, raw_val, function_type, concrete, val_fits}
use Rattle.spec_machine.specs.declared.name.Name.{Name}
use Rattle.spec_machine.specs.declared.name.Operand.{Operand}
use Rattle.spec_machine.specs.declared.operation.Op.TheVariants.{Call}
use Rattle.spec_machine.specs.declared.reply.Reply.{Reply}
use Rattle.spec_machine.specs.declared.reply.Reply.TheVariants.{Refused}
use Rattle.store_state.specs.Machine.{run_machine, type_named}
use Rattle.store_state.specs.Parts.{ProgramParts, HeldParts}
use Rattle.store_state.proofs.Instances.{function_type-named}
use Rattle.wasm_call.specs.Arguments.{call_on, own_type, is_owned, is_fitting, are_fitting}
use Rattle.wasm_call.specs.Calls.{call_row}
use Rattle.wasm_call.specs.Outcomes.{CutRow, Called as Calls}
use Rattle.wasm_call.specs.Outside.{Moving, Surrounded}
use Rattle.wasm_call.specs.Room.{refusal_of}
use Rattle.wasm_call.proofs.CommandLemmas.{refused_row}

-- ---- a list, member by member

pub all_step : {A : Type 0} (f : A → Bool) (xs : List A) (i : ℕ) (x : A) → i < length xs → x ≡ get_or xs i x →
    f x ≡ true → list_all f (drop i xs) ≡ list_all f xs → list_all f (drop (i + 1) xs) ≡ list_all f xs
all_step f xs i x h is t e = grind (arith, common_steps)

pub all_end : {A : Type 0} (f : A → Bool) (xs : List A) (i : ℕ) → length xs ≤ i →
    list_all f (drop i xs) ≡ list_all f xs → true ≡ list_all f xs
all_end f xs i h e = grind (arith, common_steps)

unequal : (n m : ℕ) → (n ≡ m → ⊥) → nat_eq n m ≡ false
unequal n m other = grind (arith, nat_tests)

equal : (n m : ℕ) → n ≡ m → nat_eq n m ≡ true
equal n m same = grind (arith, nat_tests)

-- ---- what is read of a store

module _ (base : Machine) (program : ProgramParts) (held : HeldParts) (f : Func) where
  type_by_id : (id : StoreId) → base.id ≡ id →
      func_ty (run_machine base program held) f ≡ ok_or (own_type program id f) WrongStore
  type_by_id id e =
      ap (λ (i : StoreId). if is_id (func_store f) i
      then ok_or (function_type (run_machine base program held) (func_index f)) WrongStore else Err WrongStore) e
      ∙ ap (λ (o : Option Signature). if is_id (func_store f) id then ok_or o WrongStore else Err WrongStore)
      (function_type-named base program held (func_index f))
      ∙ by_own (is_id (func_store f) id) (type_named program (func_index f))
    where
      by_own : (b : Bool) (o : Option Signature) →
          (if b then ok_or o WrongStore else Err WrongStore) ≡ ok_or (if b then o else None) WrongStore
      by_own true o = refl
      by_own false o = refl

  pub type_found : (id : StoreId) → base.id ≡ id → (t : Signature) → Some t ≡ own_type program id f →
      func_ty (run_machine base program held) f ≡ Ok t
  type_found id e t found =
      type_by_id id e ∙ ap (λ (o : Option Signature). ok_or o WrongStore) (sym found)

  pub type_none : (id : StoreId) → base.id ≡ id → None ≡ own_type program id f →
      func_ty (run_machine base program held) f ≡ Err WrongStore
  type_none id e none = type_by_id id e ∙ ap (λ (o : Option Signature). ok_or o WrongStore) (sym none)

  pub function_fit : (ty : ValType) →
      val_matches (kind.Ref (ref_type false (concrete (type_named program (func_index f))))) ty
      ≡ val_fits (run_machine base program held) (v.FuncRef (Some f)) ty
  function_fit ty =
      ap (λ (o : Option Signature). val_matches (kind.Ref (ref_type false (concrete o))) ty)
      (sym (function_type-named base program held (func_index f)))

-- ---- the operands, one by one

abbrev pub all_given : Scope → List Operand → Bool
all_given s args = list_all (λ (arg : Operand). is_some (operand_value s arg)) args

-- one gives no value
none_first : (o : Option Val) (r : Option (List Val)) → is_some o ≡ false → with_first o r ≡ None
none_first None r e = refl
none_first (Some val) r e = absurd cc

none_after : (o : Option Val) → with_first o None ≡ None
none_after None = refl
none_after (Some val) = refl

none_given : (s : Scope) (args : List Operand) → all_given s args ≡ false → operand_values s args ≡ None
none_given s [] e = absurd cc
none_given s (arg ∷ args) e =
    by_first (is_some (operand_value s arg)) refl (λ q. none_given s args q) e
  where
    by_first : (b : Bool) → is_some (operand_value s arg) ≡ b → (all_given s args ≡ false → operand_values s args ≡ None) →
        (b && all_given s args) ≡ false → operand_values s (arg ∷ args) ≡ None
    by_first false same rest q = none_first (operand_value s arg) (operand_values s args) same
    by_first true same rest q = ap (with_first (operand_value s arg)) (rest q) ∙ none_after (operand_value s arg)

-- each gives one
pub record Given (m : Machine) (s : Scope) (args : List Operand) : Type 0 where
  pub vals : List Val
  pub are : operand_values s args ≡ Some vals
  pub count : length vals ≡ length args
  pub owned : list_all (λ (arg : Operand). is_owned m (operand_value s arg)) args ≡ list_all (owns_val m) vals
  pub fitting : (types : List ValType) → are_fitting m s args types ≡ all_fit m vals types

given_more : (m : Machine) (s : Scope) (arg : Operand) (args : List Operand) (val : Val) →
    operand_value s arg ≡ Some val → Given m s args → Given m s (arg ∷ args)
given_more m s arg args val e g = record {
  vals = val ∷ g.vals;
  are = ap (λ (o : Option Val). with_first o (operand_values s args)) e ∙ ap (with_first (Some val)) g.are;
  count = ap suc g.count;
  owned = ap (λ (o : Option Val). is_owned m o && list_all (λ (a : Operand). is_owned m (operand_value s a)) args) e
      ∙ ap (λ (b : Bool). owns_val m val && b) g.owned;
  fitting = λ types. by_types types;
} where
  by_types : (types : List ValType) → are_fitting m s (arg ∷ args) types ≡ all_fit m (val ∷ g.vals) types
  by_types [] = refl
  by_types (ty ∷ types) =
      ap (λ (o : Option Val). is_fitting m o ty && are_fitting m s args types) e
      ∙ ap (λ (b : Bool). is_fitting m (Some val) ty && b) (g.fitting types)

given_none : (m : Machine) (s : Scope) → Given m s []
given_none m s = record {
  vals = [];
  are = refl;
  count = refl;
  owned = refl;
  fitting = λ types. by_types types;
} where
  by_types : (types : List ValType) → are_fitting m s [] types ≡ all_fit m [] types
  by_types [] = refl
  by_types (ty ∷ types) = refl

pub all_are_given : (m : Machine) (s : Scope) (args : List Operand) → all_given s args ≡ true → Given m s args
all_are_given m s [] e = given_none m s
all_are_given m s (arg ∷ args) e = by_first (operand_value s arg) refl (λ q. all_are_given m s args q) e where
  by_first : (o : Option Val) → operand_value s arg ≡ o → (all_given s args ≡ true → Given m s args) →
      (is_some o && all_given s args) ≡ true → Given m s (arg ∷ args)
  by_first None same rest q = absurd cc
  by_first (Some val) same rest q = given_more m s arg args val same (rest q)

-- ---- the refusal that is due

module _ (m : Machine) (s : Scope) (f : Func) (args : List Operand) (wanted : Option ℕ) where
  abbrev due : Option Refusal
  due = refusal_of (call_on m s f args wanted)

  pub not_given : list_all (λ (arg : Operand). is_some (operand_value s arg)) args ≡ false → due ≡ Some NoReply
  not_given e =
      ap (λ (o : Option (List Val)). refusal_of (named o (λ vals. call_row m f vals wanted))) (none_given s args e)

  module _ (all : list_all (λ (arg : Operand). is_some (operand_value s arg)) args ≡ true) where
    abbrev g : Given m s args
    g = all_are_given m s args all

    named_is : due ≡ refusal_of (invokes (called m f g.vals wanted))
    named_is = ap (λ (o : Option (List Val)). refusal_of (named o (λ vals. call_row m f vals wanted))) g.are

    abbrev by_tests : Bool → Bool → Bool → Bool → Signature → Result Called Refusal
    by_tests own counted result fit t =
        unless WrongStore own >>= (λ _. unless ArgumentCount counted >>=
        (λ _. unless ResultCount result >>= (λ _. unless TypeMismatch fit >>=
        (λ _. Ok (record { function = func_index f; arguments = map raw_val g.vals; results = results t })))))

    -- of another store
    pub stranger : func_ty m f ≡ Err WrongStore → due ≡ Some WrongStore
    stranger e =
        named_is
        ∙ ap (λ (r : Result Signature Refusal). refusal_of (invokes (r >>= (λ t. by_tests
        (list_all (owns_val m) g.vals) (nat_eq (length g.vals) (length (params t)))
        (is_count wanted (length (results t))) (all_fit m g.vals (params t)) t)))) e

    module _ (t : Signature) (type_is : func_ty m f ≡ Ok t) where
      abbrev owned : Bool
      owned = list_all (λ (arg : Operand). is_owned m (operand_value s arg)) args

      tests : due ≡ refusal_of (invokes (by_tests owned (nat_eq (length args) (length (params t)))
          (is_count wanted (length (results t))) (are_fitting m s args (params t)) t))
      tests =
          named_is
          ∙ ap (λ (r : Result Signature Refusal). refusal_of (invokes (r >>= (λ u. by_tests
          (list_all (owns_val m) g.vals) (nat_eq (length g.vals) (length (params u)))
          (is_count wanted (length (results u))) (all_fit m g.vals (params u)) u)))) type_is
          ∙ ap (λ (b : Bool). refusal_of (invokes (by_tests b (nat_eq (length g.vals) (length (params t)))
          (is_count wanted (length (results t))) (all_fit m g.vals (params t)) t))) (sym g.owned)
          ∙ ap (λ (n : ℕ). refusal_of (invokes (by_tests owned (nat_eq n (length (params t)))
          (is_count wanted (length (results t))) (all_fit m g.vals (params t)) t))) g.count
          ∙ ap (λ (b : Bool). refusal_of (invokes (by_tests owned (nat_eq (length args) (length (params t)))
          (is_count wanted (length (results t))) b t))) (sym (g.fitting (params t)))

      pub not_owned : owned ≡ false → due ≡ Some WrongStore
      not_owned e =
          tests
          ∙ ap (λ (b : Bool). refusal_of (invokes (by_tests b (nat_eq (length args) (length (params t)))
          (is_count wanted (length (results t))) (are_fitting m s args (params t)) t))) e

      module _ (own : owned ≡ true) where
        counts : due ≡ refusal_of (invokes (by_tests true (nat_eq (length args) (length (params t)))
            (is_count wanted (length (results t))) (are_fitting m s args (params t)) t))
        counts =
            tests
            ∙ ap (λ (b : Bool). refusal_of (invokes (by_tests b (nat_eq (length args) (length (params t)))
            (is_count wanted (length (results t))) (are_fitting m s args (params t)) t))) own

        pub not_counted : (length args ≡ length (params t) → ⊥) → due ≡ Some ArgumentCount
        not_counted other =
            counts
            ∙ ap (λ (b : Bool). refusal_of (invokes (by_tests true b (is_count wanted (length (results t)))
            (are_fitting m s args (params t)) t))) (unequal (length args) (length (params t)) other)

        module _ (many : length args ≡ length (params t)) where
          results_due : due ≡ refusal_of (invokes (by_tests true true (is_count wanted (length (results t)))
              (are_fitting m s args (params t)) t))
          results_due =
              counts
              ∙ ap (λ (b : Bool). refusal_of (invokes (by_tests true b (is_count wanted (length (results t)))
              (are_fitting m s args (params t)) t))) (equal (length args) (length (params t)) many)

          pub not_wanted : is_count wanted (length (results t)) ≡ false → due ≡ Some ResultCount
          not_wanted e =
              results_due
              ∙ ap (λ (b : Bool). refusal_of (invokes (by_tests true true b (are_fitting m s args (params t)) t))) e

          pub fits_or : is_count wanted (length (results t)) ≡ true → (b : Bool) → are_fitting m s args (params t) ≡ b →
              due ≡ refusal_of (invokes (by_tests true true true b t))
          fits_or e b h =
              results_due
              ∙ ap (λ (c : Bool). refusal_of (invokes (by_tests true true c (are_fitting m s args (params t)) t))) e
              ∙ ap (λ (c : Bool). refusal_of (invokes (by_tests true true true c t))) h

          pub not_fitting : is_count wanted (length (results t)) ≡ true → are_fitting m s args (params t) ≡ false →
              due ≡ Some TypeMismatch
          not_fitting e h = fits_or e false h

          pub all_met : is_count wanted (length (results t)) ≡ true → are_fitting m s args (params t) ≡ true →
              due ≡ None
          all_met e h = fits_or e true h

-- ---- by what is answered

-- a refusal that was told, or none
pub told_is : (r : Row) (o : Option Refusal) → o ≡ refusal_of r → (why : Refusal) → o ≡ Some why → r ≡ Refuse why
told_is r o e why h = by_row r (sym e ∙ h) where
  by_row : (x : Row) → refusal_of x ≡ Some why → x ≡ Refuse why
  by_row (Refuse w) q = let same : w ≡ why = cc in ap Refuse same
  by_row x q = absurd cc

-- the row of a call that names a function
pub call_with : (m : Machine) (s : Scope) (name : Name) (args : List Operand) (wanted : Option ℕ) (f : Func) →
    Some f ≡ named_func s name → operation m s (Call name args wanted) ≡ call_on m s f args wanted
call_with m s name args wanted f e =
    ap (λ (o : Option Func). named o (λ f. named (operand_values s args) (λ vals. call_row m f vals wanted))) (sym e)

-- a call that has no list of its arguments
pub unlisted_called : {T H E : Type 0} (rel : Moving T H E) (row all : Row) (result : Result Reply NoMemory)
    (s new : Surrounded T H E) → all ≡ row → new ≡ s → s.store.turns ≡ 0 →
    IfOk result (λ reply. (why : Refusal) × (reply ≡ Refused why) × (row ≡ Refuse why)) → CutRow rel all s s →
    Calls rel all s result new
unlisted_called {T} {H} {E} rel row all result s new is same none h cut =
    let P : Surrounded T H E → Type 0 = λ x. Calls rel all s result x in
    subst P (sym same) (by_result result h) where
      by_result : (x : Result Reply NoMemory) →
          IfOk x (λ reply. (why : Refusal) × (reply ≡ Refused why) × (row ≡ Refuse why)) → Calls rel all s x s
      by_result (Ok reply) k =
          let Q : Reply → Type 0 = λ r. Calls rel all s (Ok r) s in
          subst Q (sym k.1) (refused_row rel all k.0 s (is ∙ k.2) none)
      by_result (Err short) k = inl cut
