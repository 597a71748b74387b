-- Laws of the steps of a closure.
use Rattle.std.proofs.Common.{sym, ap, arith, inl, inr}
use Rattle.std.proofs.lemmas.Bool.{false≢true}
use Rattle.std.specs.Prelude.{Bool, true, false, ◌≡◌, ℕ, ◌≤◌, ◌⊎◌, List, Option, Some, None, Result, Ok, IsErr}
use Rattle.wasm_types.specs.declared.faults.OutOfMemory.{OutOfMemory}
use Rattle.wasm_values.specs.declared.values.Val.{Val}
use Rattle.wasm_meter.specs.Counting.{Rose}
use Rattle.wasm_typed.specs.Wraps.{Calls, Called, Says, WrapSteps, taken}
use Rattle.spec_execution.specs.declared.answer.Answer.{Answer}
use Rattle.spec_execution.specs.declared.answer.Answer.TheVariants.{Return, Fail}

abbrev said : Answer → Result Answer OutOfMemory
said answer = Ok answer

-- whether a step says that it failed
abbrev is_failure : Result Answer OutOfMemory → Bool
is_failure (Ok Fail) = true
is_failure say = false

-- what returns does not fail
returns_not : (vals : List Val) (P : Type 0) → said (Fail) ≡ said (Return vals) → P
returns_not vals P e = absurd (false≢true (sym (ap is_failure e)))

module _ {T P R : Type 0} (given : R → Option (List Val)) (calls : Calls T P R) (keeps : T → T → Type 0) (of_vals : List Val → Option P) where
  same : (old new : ℕ) → new ≡ old → old ≤ new
  same old new e = omega (arith, e)

  by_said : (old new : ℕ) (vals : Option (List Val)) (say : Result Answer OutOfMemory) → Says given calls old vals say new → old ≤ new
  by_said old new (Some vals) say h = same old new h.1
  by_said old new None say h = h.1.0

  by_taken : (old new : ℕ) (s t : T) (p : Option P) (say : Result Answer OutOfMemory) → Called given calls old s p say new t → old ≤ new
  by_taken old new s t None say h = h.1.0
  by_taken old new s t (Some p) say h = by_either h.2 where
    by_either : Says given calls old (given h.0) say new ⊎ (IsErr say × (new ≡ old)) → old ≤ new
    by_either (inl said) = by_said old new (given h.0) say said
    by_either (inr short) = same old new short.1

  pub keep : (old : ℕ) (s : T) (body state : ℕ) (args : List Val) (after : ℕ) (say : Result Answer OutOfMemory) (new : ℕ) (t : T) → WrapSteps given calls keeps of_vals old s body state args after say new t → (old ≤ new) × keeps s t
  keep old s body state args after say new t h = (by_taken old new s t (taken of_vals body args) say h.goes, h.counts)

  fail_by_said : (old new : ℕ) (vals : Option (List Val)) → Says given calls old vals (Ok Fail) new → Rose old new
  fail_by_said old new (Some vals) h = returns_not vals (Rose old new) h.0
  fail_by_said old new None h = h.1.1

  fail_by_taken : (old new : ℕ) (s t : T) (p : Option P) → Called given calls old s p (Ok Fail) new t → Rose old new
  fail_by_taken old new s t None h = h.1.1
  fail_by_taken old new s t (Some p) h = by_either h.2 where
    by_either : Says given calls old (given h.0) (Ok Fail) new ⊎ (IsErr (said Fail) × (new ≡ old)) → Rose old new
    by_either (inl said) = fail_by_said old new (given h.0) said
    by_either (inr short) = absurd (false≢true short.0)

  pub fail : (old : ℕ) (s : T) (body state : ℕ) (args : List Val) (after : ℕ) (new : ℕ) (t : T) → WrapSteps given calls keeps of_vals old s body state args after (Ok Fail) new t → Rose old new
  fail old s body state args after new t h = fail_by_taken old new s t (taken of_vals body args) h.goes
