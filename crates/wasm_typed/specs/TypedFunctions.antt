-- Functions whose parameters and results are static types of the host: the wasmtime crate's `TypedFunc`.
use Rattle.std.specs.Coded.{Coded, code_by, coded×}
use Rattle.std.specs.List.{list_all}
use Rattle.std.specs.Prelude.{◌≡◌, ℕ, true, List, [], Option, Some, Result, Ok, IfOk, ⊤, refl}
use Rattle.wasm_types.specs.Equality.{same}
use Rattle.wasm_types.specs.FunctionParts.{params, results}
use Rattle.wasm_types.specs.SignatureCode.{signature_code}
use Rattle.wasm_types.specs.Signatures.{Signature}
use Rattle.wasm_types.specs.declared.value_types.ValType.{ValType}
use Rattle.wasm_values.specs.contracts.handles.Func as func
use Rattle.wasm_values.specs.declared.handles.Func.{Func}
use Rattle.wasm_values.specs.declared.refusals.Refusal.{Refusal}
use Rattle.wasm_values.specs.declared.refusals.Refusal.TheVariants.{TypeMismatch, WrongStore}
use Rattle.wasm_values.specs.declared.values.Val.{Val}
use Rattle.spec_machine.specs.Commands.{Row, invokes}
use Rattle.spec_machine.specs.FunctionCalls.{Called, called}
use Rattle.spec_machine.specs.Machine.{Machine}
use Rattle.spec_machine.specs.Steps.{◌>>=◌, unless}
use Rattle.spec_machine.specs.ValueCalls.{func_new, func_ty}
use Rattle.spec_machine.specs.Values.{owns_val}
use Rattle.spec_machine.specs.declared.reply.Reply.TheVariants as reply
use Rattle.typed_closures.specs.ClosureTypes.{closure_type}
use Rattle.typed_values.specs.StaticTypes.{all_checked}
use Rattle.typed_values.specs.declared.checks.TypeCheckPosition.TheVariants as at
use Rattle.wasm_call.specs.Calls.{Returned, ResultsFit}
use Rattle.wasm_call.specs.Confined.{Confined, handled, told}
use Rattle.wasm_call.specs.Outside.{Moving, Surrounded}

-- a function, with the type that it had when it was given static types
pub record TypedFunction : Type 0 where
  pub func : Func
  pub ty : Signature

abbrev pub typed_function : Func → Signature → TypedFunction
typed_function func ty = record { func = func; ty = ty }

-- by which proofs tell one from another: its parts, in order
abbrev pub typed_function_code : Coded TypedFunction
typed_function_code =
    code_by (Func × Signature) (coded× func.the_row.coded signature_code) (λ f. (f.func, f.ty))
    (λ p. typed_function p.0 p.1) (λ _. refl)

-- static types may stand for those of a function: for its parameters, and then for its results
abbrev pub fits_types : List ValType → List ValType → Signature → Result ⊤ Refusal
fits_types taken given ty = do
  _ ← all_checked taken (params ty) at.Param
  all_checked given (results ty) at.Result

-- a function of a store with these static types, where they fit
abbrev pub typed : List ValType → List ValType → Machine → Func → Result TypedFunction Refusal
typed taken given m f = do
  ty ← func_ty m f
  _ ← fits_types taken given ty
  Ok (typed_function f ty)

-- the function is there, of the type that it had
abbrev pub is_kept : Machine → TypedFunction → Result ⊤ Refusal
is_kept m f = do
  own ← func_ty m f.func
  unless TypeMismatch (same own f.ty)

-- a call of it on these values, for so many results, once its conditions were looked at: the function and each value are of
-- the store, and the function is of the type that it had; then it is a call of the function on them
abbrev pub typed_called : Machine → TypedFunction → List Val → ℕ → Result Called Refusal
typed_called m f args wanted = do
  own ← func_ty m f.func
  _ ← unless WrongStore (list_all (owns_val m) args)
  _ ← unless TypeMismatch (same own f.ty)
  called m f.func args (Some wanted)

abbrev pub typed_row : Machine → TypedFunction → List Val → ℕ → Row
typed_row m f args wanted = invokes (typed_called m f args wanted)

-- such a call gave this: the values that the run left are of the store, as many as the function's type has results and each
-- of its type, and are read back as this
pub record Gave {T H E R : Type 0} (moves : Moving T H E) (row : Row) (f : Func) (of_vals : List Val → Option R)
    (old new : Surrounded T H E) (given : R) : Type 0 where
  pub vals : List Val
  pub returned : Returned moves row old vals new
  pub fit : ResultsFit old.store.machine f new.store.machine vals
  pub owned : list_all (owns_val new.store.machine) vals ≡ true
  pub back : of_vals vals ≡ Some given

-- and it kept to what leads from the function and the functions among the arguments, as a call of the function does: where it
-- gave something, the values that the run left are read back as this
pub record TypedConfined {T H E R : Type 0} (moves : Moving T H E) (f : TypedFunction) (args : List Val) (wanted : ℕ)
    (of_vals : List Val → Option R) (old : Surrounded T H E) (result : Result R Refusal) (new : Surrounded T H E) : Type 0
  where
    pub vals : List Val
    pub back : IfOk result (λ given. of_vals vals ≡ Some given)
    pub confined :
        Confined moves (typed_row old.store.machine f args wanted) (handled old.store.machine.id f.func args) old
        (told (λ given. reply.Values vals) result) new

-- a new function of the host that takes these and gives those, with nothing stored
abbrev pub wrapped : List ValType → List ValType → Machine → ℕ → Result (Machine × Func) Refusal
wrapped taken given m body = func_new m (closure_type m.engine.number taken given) body []
