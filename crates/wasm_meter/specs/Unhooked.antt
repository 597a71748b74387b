-- The answers of a store's hook and deadline behaviour where it has none: this project's own.
use Rattle.std.proofs.Common.{ap, subst, sym, true≢false}
use Rattle.std.proofs.Math.Nat.{le_refl}
use Rattle.std.specs.Prelude.{◌≡◌, ℕ, ⊤, Result, Ok, Err, is_err}
use Rattle.wasm_meter.specs.Counting.{NoneFell}
use Rattle.wasm_meter.specs.declared.deadline.UpdateDeadline.{UpdateDeadline}
use Rattle.wasm_meter.specs.declared.deadline.UpdateDeadline.TheVariants.{Interrupt}
use Rattle.wasm_meter.specs.declared.faults.BehaviourFailed.{BehaviourFailed}
use Rattle.wasm_meter.specs.declared.faults.HookFailed.{HookFailed}

-- the call goes on, and the host data is as it was
abbrev pub LetsPass : {T : Type 0} → T → Result ⊤ HookFailed → T → Type 0
LetsPass s answer t = (answer ≡ Ok tt) × (t ≡ s)

-- the guest is interrupted, and the host data is as it was
abbrev pub Interrupts : {T : Type 0} → T → Result UpdateDeadline BehaviourFailed → T → Type 0
Interrupts s answer t = (answer ≡ Ok Interrupt) × (t ≡ s)

-- no count is lower where nothing changed
pub nothing_fell : {T : Type 0} (denials limiter_faults hook_faults behaviour_faults : T → ℕ) (s t : T) → t ≡ s → NoneFell denials limiter_faults hook_faults behaviour_faults s t
nothing_fell a b c d s t e = subst (λ x. NoneFell a b c d s x) (sym e) (le_refl (a s), le_refl (b s), le_refl (c s), le_refl (d s))

-- it never fails
pub passes : {T P : Type 0} (s t : T) (fault : HookFailed) → LetsPass s (Err fault) t → P
passes s t fault h = absurd (true≢false (ap is_err h.0))

pub interrupts : {T P : Type 0} (s t : T) (fault : BehaviourFailed) → Interrupts s (Err fault) t → P
interrupts s t fault h = absurd (true≢false (ap is_err h.0))
