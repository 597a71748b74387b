-- A typed call keeps to what the call of its function keeps to.
use Rattle.std.proofs.Common.{◌≡◌, ℕ, List, Option, Some, refl, ap, sym, ◌∙◌, subst}
use Rattle.std.specs.Prelude.{⊤, Result, Ok, Err, IsErrAnd}
use Rattle.wasm_types.specs.declared.faults.OutOfMemory.{OutOfMemory as NoMemory}
use Rattle.wasm_values.specs.declared.refusals.Refusal.{Refusal}
use Rattle.wasm_values.specs.declared.refusals.Refusal.TheVariants.{OutOfMemory}
use Rattle.wasm_values.specs.declared.values.Val.{Val}
use Rattle.spec_machine.specs.Commands.{Row}
use Rattle.spec_machine.specs.declared.reply.Reply.{Reply}
use Rattle.spec_machine.specs.declared.reply.Reply.TheVariants as reply
use Rattle.spec_reach.specs.Nodes.{Node}
use Rattle.wasm_call.specs.Calls.{call_row, Failed}
use Rattle.wasm_call.specs.Confined.{Confined, CallConfined, handled, told}
use Rattle.wasm_call.specs.Outcomes.{Called}
use Rattle.wasm_call.specs.Outside.{Moving, Surrounded}
use Rattle.wasm_call.proofs.ConfinedLemmas.{same_confined}
use Rattle.wasm_typed.specs.TypedFunctions.{TypedFunction, TypedConfined, typed_row}

-- the values of a result, which may be of any type
abbrev values_of : {A : Type 0} → List Val → Result A Refusal → Result Reply NoMemory
values_of vals result = told (λ a. reply.Values vals) result

told_same : (A B : Type 0) (vals others : List Val) (why : Refusal) →
    values_of {A = A} vals (Err why) ≡ values_of {A = B} others (Err why)
told_same A B vals others OutOfMemory = refl
told_same A B vals others why = refl

module _ {T H E R : Type 0} (moves : Moving T H E) (old new : Surrounded T H E) (f : TypedFunction) (args : List Val)
    (n : ℕ) (of_vals : List Val → Option R) where
  abbrev row : Row
  row = typed_row old.store.machine f args n

  abbrev from : List Node
  from = handled old.store.machine.id f.func args

  -- ---- where a condition of its own is not met

  failed_ran : (vals : List Val) (why : Refusal) → Failed moves row old why new →
      Called moves row old (values_of {A = R} vals (Err why)) new
  failed_ran vals OutOfMemory k = k
  failed_ran vals why l = l

  pub refused_confined : (why : Refusal) → Failed moves row old why new → new.store.machine ≡ old.store.machine →
      (vals : List Val) → TypedConfined moves f args n of_vals old (Err why) new
  refused_confined why k e vals = record {
    vals = vals;
    back = tt;
    confined = same_confined moves row from old new e (values_of {A = R} vals (Err why)) (failed_ran vals why k);
  }

  -- ---- where it is the call of its function

  module _ (own : TypedFunction) (given vals : List Val) (k : ℕ)
      (same_row : call_row old.store.machine own.func given (Some k) ≡ row)
      (same_from : handled old.store.machine.id own.func given ≡ from) where
    on_row : (result : Result Reply NoMemory) →
        Confined moves (call_row old.store.machine own.func given (Some k))
        (handled old.store.machine.id own.func given) old result new → Confined moves row from old result new
    on_row result h =
        subst (λ (ns : List Node). Confined moves row ns old result new) same_from
        (subst (λ (r : Row). Confined moves r (handled old.store.machine.id own.func given) old result new) same_row h)

    -- by the result that tells why there are none
    pub failed_confined : (why : Refusal) → CallConfined {A = ⊤} moves own.func given (Some k) old (Err why) vals new →
        (result : Result R Refusal) → IsErrAnd result (λ told. told ≡ why) →
        TypedConfined moves f args n of_vals old result new
    failed_confined why h (Ok r) e = absurd e
    failed_confined why h (Err said) e = record {
      vals = vals;
      back = tt;
      confined =
          subst (λ (o : Result Reply NoMemory). Confined moves row from old o new)
          (told_same ⊤ R vals vals why ∙ ap (λ (w : Refusal). values_of {A = R} vals (Err w)) (sym e))
          (on_row (values_of {A = ⊤} vals (Err why)) h);
    }

    pub given_confined : CallConfined {A = ⊤} moves own.func given (Some k) old (Ok tt) vals new → (r : R) →
        of_vals vals ≡ Some r → TypedConfined moves f args n of_vals old (Ok r) new
    given_confined h r back = record { vals = vals; back = back; confined = on_row (Ok (reply.Values vals)) h }
