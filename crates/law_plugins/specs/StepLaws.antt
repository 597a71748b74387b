-- The laws of a host that hands out nothing strange: no count falls, and its own rises where a step fails. This project's
-- own.
use Rattle.std.specs.Prelude.{◌≡◌, ℕ, ◌≤◌, Result, Ok, Err}
use Rattle.std.proofs.Common.{arith}
use Rattle.wasm_types.specs.declared.faults.OutOfMemory.{OutOfMemory}
use Rattle.wasm_meter.specs.Counting.{Rose, NoneFell}
use Rattle.spec_execution.specs.Askings.{View}
use Rattle.spec_execution.specs.declared.answer.Answer.{Answer as Say}
use Rattle.spec_execution.specs.declared.answer.Answer.TheVariants as say
use Rattle.spec_execution.specs.declared.answer.Event.{Event}
use Rattle.law_plugins.specs.Showing.{Counts, ShowsStep}

same : (old new : ℕ) → new ≡ old → old ≤ new
same old new e = omega (arith, e)

never_falls : (what : Result Say OutOfMemory) (old new : ℕ) → Counts what old new → old ≤ new
never_falls (Ok say.Fail) old new c = c.0
never_falls (Ok (say.Return vals)) old new c = same old new c
never_falls (Ok (say.Call op)) old new c = same old new c
never_falls (Err none) old new c = same old new c

module _ {H T : Type 0} (steps : H → T → ℕ → ℕ → Event → View → ℕ → Result Say OutOfMemory → H → T → Type 0)
    (h k : H) (faults faults_then : ℕ) (s t : T) (body state after : ℕ) (cause : Event) (seen : View) where
  pub shows_keep : (host_faults : H → ℕ) (denials limiter_faults hook_faults behaviour_faults : T → ℕ) →
      ((h k : H) (s t : T) (body state after : ℕ) (cause : Event) (view : View) (say : Result Say OutOfMemory) →
      steps h s body state cause view after say k t → (host_faults h ≤ host_faults k)
      × NoneFell denials limiter_faults hook_faults behaviour_faults s t) →
      (what : Result Say OutOfMemory) → ShowsStep steps h faults s body state cause seen after what k faults_then t →
      (faults ≤ faults_then) × NoneFell denials limiter_faults hook_faults behaviour_faults s t
  shows_keep host_faults a b c d keeps what i = (
    never_falls what faults faults_then i.counted,
    (keeps h k s t body state after cause seen i.said i.stepped).1,
  )

  pub shows_fail : ShowsStep steps h faults s body state cause seen after (Ok say.Fail) k faults_then t →
      Rose faults faults_then
  shows_fail i = i.counted.1
