-- A step of a closure's host: of a closure that was called, and where there was none to call.
use Rattle.std.proofs.Common.{subst}
use Rattle.std.specs.Prelude.{◌≡◌, ℕ, ◌⊎◌, List, Option, Some, None, Result, Ok, IsErr, refl}
use Rattle.wasm_types.specs.declared.faults.OutOfMemory.{OutOfMemory}
use Rattle.wasm_values.specs.declared.values.Val.{Val}
use Rattle.wasm_typed.specs.Wraps.{Calls, Called, Gives, KeepsCounts, Rises, Says, WrapSteps, taken}
use Rattle.spec_execution.specs.declared.answer.Answer.{Answer}
use Rattle.spec_execution.specs.declared.answer.Answer.TheVariants.{Fail}

module _ {T P R : Type 0} (given : R → Option (List Val)) (calls : Calls T P R) (keeps : T → T → Type 0) (of_vals : List Val → Option P) where
  counts : (s : T) (p : P) (r : R) (t : T) → KeepsCounts keeps calls → Gives given calls s p r t → keeps s t
  counts s p r t keep g =
      subst (λ x. keeps x t) g.begins (subst (λ y. keeps g.before.now y) g.ends (keep g.before g.after p r g.called))

  pub steps_called : (old : ℕ) (s : T) (body state : ℕ) (args : List Val) (say : Result Answer OutOfMemory) (new : ℕ) (t : T) (p : P) (r : R) → KeepsCounts keeps calls → Some p ≡ taken of_vals body args → Gives given calls s p r t → Says given calls old (given r) say new ⊎ (IsErr say × (new ≡ old)) → WrapSteps given calls keeps of_vals old s body state args state say new t
  steps_called old s body state args say new t p r keep is g says = record {
    same_state = refl;
    counts = counts s p r t keep g;
    goes = subst (λ o. Called given calls old s o say new t) is (r, g, says);
  }

  pub steps_untaken : (old : ℕ) (s : T) (body state : ℕ) (args : List Val) (new : ℕ) → keeps s s → None ≡ taken of_vals body args → Rises old new → WrapSteps given calls keeps of_vals old s body state args state (Ok Fail) new s
  steps_untaken old s body state args new keep is rises = record {
    same_state = refl;
    counts = keep;
    goes = subst (λ o. Called given calls old s o (Ok Fail) new s) is (refl, rises, refl);
  }
