-- The laws of a script's host.
use Rattle.std.proofs.Common.{inl, inr, subst, sym, ap, refl, ◌∙◌}
use Rattle.std.proofs.Math.Nat.{lt-suc_self}
use Rattle.std.specs.Prelude.{◌≡◌, ℕ, suc, ◌-◌, ◌^◌, ◌≤◌, nat_lt, Bool, true, false, if◌then◌else◌, Result, Ok}
use Rattle.wasm_types.specs.declared.faults.OutOfMemory.{OutOfMemory}
use Rattle.wasm_meter.specs.Counting.{Rose, NoneFell}
use Rattle.wasm_meter.specs.Lists.{one_more}
use Rattle.wasm_meter.specs.Unhooked.{nothing_fell}
use Rattle.spec_execution.specs.Askings.{View}
use Rattle.spec_execution.specs.declared.answer.Answer.{Answer}
use Rattle.spec_execution.specs.declared.answer.Answer.TheVariants.{Fail}
use Rattle.script_host.specs.ScriptSteps.{HostParts, Step, Steps, step, faults_after}
use Rattle.script_data.specs.declared.script_data.ScriptData.{ScriptData}

-- a step leaves no count lower
pub steps_keep : (h k : HostParts) (s t : ScriptData) (body place after : ℕ) (view : View) (say : Result Answer OutOfMemory) → Steps h s body place view after say k t → (h.faults ≤ k.faults) × NoneFell (λ (x : ScriptData). x.answers.denials) (λ x. x.answers.limiter_faults) (λ x. x.answers.hook_faults) (λ x. x.answers.behaviour_faults) s t
steps_keep h k s t body place after view say g = (
  g.never_falls,
  nothing_fell (λ (x : ScriptData). x.answers.denials) (λ x. x.answers.limiter_faults) (λ x. x.answers.hook_faults)
      (λ x. x.answers.behaviour_faults) s t g.data_is,
)

rises_by : (n : ℕ) (b : Bool) → Rose n (if b then suc n else 2 ^ 64 - 1)
rises_by n true = inl (lt-suc_self n)
rises_by n false = inr refl

rises : (n : ℕ) → Rose n (one_more n)
rises n = rises_by n (nat_lt n (2 ^ 64 - 1))

-- where the step says that it fails, the count is one more
failing : (h k : HostParts) (after : ℕ) (s : Step) → s.host.faults ≡ faults_after s.answer h.faults → record { host = k; state = after; answer = Fail } ≡ s → k.faults ≡ one_more h.faults
failing h k after s counted e =
    ap (λ (x : Step). x.host.faults) e ∙ counted ∙ ap (λ (x : Step). faults_after x.answer h.faults) (sym e)

-- the count of faults rises where a step fails
pub steps_fail : (h k : HostParts) (s t : ScriptData) (body place after : ℕ) (view : View) → Steps h s body place view after (Ok Fail) k t → Rose h.faults k.faults
steps_fail h k s t body place after view g =
    subst (Rose h.faults) (sym (failing h k after (step h s body place view) refl g.goes)) (rises h.faults)
