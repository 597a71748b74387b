-- What the conditions of a call assure: a function that is there, and arguments of its parameters' types.
use Rattle.std.proofs.Common.{◌≡◌, ℕ, Bool, true, false, List, length, map, Option, Some, None, Result, Ok, Err, ok_or, if◌then◌else◌, refl, subst, [], ◌∷◌}
use Rattle.std.specs.List.{list_all}
use Rattle.std.specs.Prelude.{nat_eq}
use Rattle.wasm_types.specs.FunctionParts.{params, results}
use Rattle.wasm_types.specs.Signatures.{Signature}
use Rattle.wasm_values.specs.Handles.{func_store, func_index}
use Rattle.wasm_values.specs.declared.handles.Func.{Func}
use Rattle.wasm_values.specs.declared.refusals.Refusal.{Refusal}
use Rattle.wasm_values.specs.declared.refusals.Refusal.TheVariants.{WrongStore, ArgumentCount, ResultCount, TypeMismatch}
use Rattle.wasm_values.specs.declared.values.Val.{Val}
use Rattle.spec_machine.specs.Machine.{Machine}
use Rattle.spec_machine.specs.Steps.{◌>>=◌, unless}
use Rattle.spec_machine.specs.Values.{function_type, is_id, owns_val, raw_val, val_fits, all_fit}
use Rattle.law_store.proofs.RefusalLemmas.{given_is}
use Rattle.wasm_types.specs.EqualityLaws.{both}
use Rattle.wasm_types.proofs.MatchingLemmas.{no}
use Rattle.wasm_types.specs.declared.value_types.ValType.{ValType}
use Rattle.law_store.proofs.Places.{raw_val_there, raw_val_set_fits}
use Rattle.law_code.specs.Typed.{HasType, HaveTypes}
use Rattle.spec_machine.specs.FunctionCalls.{Called, is_count, called}

-- values that a host gives, in the places of a store
has_given : (m : Machine) (ty : ValType) (v : Val) → owns_val m v ≡ true → val_fits m v ty ≡ true →
    HasType m ty (raw_val v)
has_given m ty v o p = record { there = raw_val_there m v o; fits = raw_val_set_fits m v ty o p }

pub have_given : (m : Machine) (vals : List Val) (tys : List ValType) → list_all (owns_val m) vals ≡ true →
    all_fit m vals tys ≡ true → HaveTypes m tys (map raw_val vals)
have_given m [] [] o p = tt
have_given m (v ∷ vals) (ty ∷ tys) o p =
    (has_given m ty v (both _ _ o).0 (both _ _ p).0, have_given m vals tys (both _ _ o).1 (both _ _ p).1)
have_given m [] (ty ∷ tys) o p = no p
have_given m (v ∷ vals) [] o p = no p

-- what the conditions of a call have tested
pub record Tested (m : Machine) (f : Func) (args : List Val) (c : Called) : Type 0 where
  pub own : Signature
  pub found : function_type m (func_index f) ≡ Some own
  pub owned : list_all (owns_val m) args ≡ true
  pub fits : all_fit m args (params own) ≡ true
  pub is : record { function = func_index f; arguments = map raw_val args; results = results own } ≡ c

module _ (m : Machine) (f : Func) (args : List Val) (c : Called) where
  abbrev by : Signature → Called
  by own = record { function = func_index f; arguments = map raw_val args; results = results own }

  by_tests : (own : Signature) (b₁ b₂ b₃ b₄ : Bool) → function_type m (func_index f) ≡ Some own →
      list_all (owns_val m) args ≡ b₁ → all_fit m args (params own) ≡ b₄ →
      ◌≡◌ {A = Result Called Refusal}
      (unless WrongStore b₁ >>= (λ _. unless ArgumentCount b₂ >>= (λ _. unless ResultCount b₃ >>=
      (λ _. unless TypeMismatch b₄ >>= (λ _. Ok (by own)))))) (Ok c) → Tested m f args c
  by_tests own true true true true p o q e =
      record { own = own; found = p; owned = o; fits = q; is = given_is (by own) c e }
  by_tests own true true true false p o q e = absurd cc
  by_tests own true true false b₄ p o q e = absurd cc
  by_tests own true false b₃ b₄ p o q e = absurd cc
  by_tests own false b₂ b₃ b₄ p o q e = absurd cc

  by_function : (wanted : Option ℕ) (b : Bool) (o : Option Signature) → function_type m (func_index f) ≡ o →
      ◌≡◌ {A = Result Called Refusal}
      ((if b then ok_or o WrongStore else Err WrongStore) >>=
      (λ t. unless WrongStore (list_all (owns_val m) args) >>=
      (λ _. unless ArgumentCount (nat_eq (length args) (length (params t))) >>=
      (λ _. unless ResultCount (is_count wanted (length (results t))) >>=
      (λ _. unless TypeMismatch (all_fit m args (params t)) >>= (λ _. Ok (by t))))))) (Ok c) → Tested m f args c
  by_function wanted true (Some own) p e =
      by_tests own (list_all (owns_val m) args) (nat_eq (length args) (length (params own)))
      (is_count wanted (length (results own))) (all_fit m args (params own)) p refl refl e
  by_function wanted true None p e = absurd cc
  by_function wanted false o p e = absurd cc

  pub tested : (wanted : Option ℕ) → called m f args wanted ≡ Ok c → Tested m f args c
  tested wanted e = by_function wanted (is_id (func_store f) m.id) (function_type m (func_index f)) refl e

-- the function of a call is there, and its arguments and results are of the function's types
pub record IsSafeCall (m : Machine) (c : Called) : Type 0 where
  pub own : Signature
  pub found : function_type m c.function ≡ Some own
  pub arguments : HaveTypes m (params own) c.arguments
  pub are : results own ≡ c.results

pub safe_call : (m : Machine) (f : Func) (args : List Val) (wanted : Option ℕ) (c : Called) →
    called m f args wanted ≡ Ok c → IsSafeCall m c
safe_call m f args wanted c e =
    let t : Tested m f args c = tested m f args c wanted e in
    subst (IsSafeCall m) t.is
    (record { own = t.own; found = t.found; arguments = have_given m args (params t.own) t.owned t.fits; are = refl })
