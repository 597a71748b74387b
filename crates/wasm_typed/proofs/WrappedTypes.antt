-- A function of the host by static types is refused for want of memory alone.
use Rattle.std.proofs.Common.{ap, ◌∙◌, sym}
use Rattle.std.specs.Prelude.{◌≡◌, ℕ, Bool, true, [], ◌∷◌, length, List, Result, Ok, Err, IfErr, refl}
use Rattle.wasm_types.specs.declared.value_types.ValType.{ValType}
use Rattle.wasm_values.specs.Handles.{func_of}
use Rattle.wasm_values.specs.declared.handles.Func.{Func}
use Rattle.wasm_values.specs.declared.refusals.Refusal.{Refusal}
use Rattle.wasm_values.specs.declared.refusals.Refusal.TheVariants.{WrongEngine, OutOfMemory}
use Rattle.spec_machine.specs.Changes.{append_functions}
use Rattle.spec_machine.specs.Machine.{Machine, host}
use Rattle.spec_machine.specs.Steps.{◌>>=◌, unless}
use Rattle.store_state.specs.Calls.{cause, Makes}
use Rattle.typed_closures.proofs.ClosureTypes.{closure_is_of}
use Rattle.typed_closures.specs.ClosureTypes.{closure_type}
use Rattle.typed_values.specs.StaticTypes.{are_plain}
use Rattle.wasm_typed.specs.TypedFunctions.{wrapped}

module _ (m : Machine) (taken given : List ValType) (body : ℕ) (p : are_plain taken ≡ true) (q : are_plain given ≡ true) where
  wrapped_cause : cause (wrapped taken given m body) ≡ OutOfMemory
  wrapped_cause =
      ap (λ (b : Bool). cause {A = Machine × Func} (unless WrongEngine b >>= λ _.
      Ok (append_functions m (host (closure_type m.engine.number taken given) body [] ∷ []), func_of m.id (length m.functions))))
      (closure_is_of m.engine.number taken given p q)

  pub wrapped_unmade : Makes (wrapped taken given m body) m (Err OutOfMemory) m
  wrapped_unmade = (sym wrapped_cause, refl)

  pub wrapped_short : (result : Result Func Refusal) (new : Machine) → Makes (wrapped taken given m body) m result new →
      IfErr result (λ why. why ≡ OutOfMemory)
  wrapped_short (Ok f) new h = tt
  wrapped_short (Err why) new h = h.0 ∙ wrapped_cause
