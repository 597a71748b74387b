-- Worked examples of causes in what was heard, each by computation.
use Rattle.std.proofs.Common.{◌≡◌, ℕ, List, [], ◌∷◌, Some, None, refl, inl}
use Rattle.std.specs.Prelude.{Ok, Err, true, false}
use Rattle.std.specs.List.{list_any}
use Rattle.wasm_meter.specs.Growths.{memory_growth}
use Rattle.wasm_meter.specs.declared.call_hook.CallHook.TheVariants.{CallingWasm, ReturningFromWasm}
use Rattle.wasm_values.specs.declared.refusals.Refusal.TheVariants.{GrowFailed, HookFault, EpochFault, WrongStore, NoHostBody}
use Rattle.spec_machine.specs.Growth.{plan, growth_rule, Grows}
use Rattle.spec_machine.specs.Machine.{Machine}
use Rattle.spec_execution.specs.Askings.{Growing, Having, Passing, Reading, Grown, Has, Passed, Read, Asking, answers_in}
use Rattle.law_causes.specs.Causes.{is_denial, is_hook_fault, HasCause, IsVain, code_reasons, Reasons}

-- a call whose hook fails behind it
failed_behind : List Asking
failed_behind =
    (Passing CallingWasm, Passed (Ok tt)) ∷ (Having 0, Has true) ∷ (Passing ReturningFromWasm, Passed (Err (record {})))
    ∷ []

hook_failed : HasCause code_reasons HookFault failed_behind
unfolding failed_behind
hook_failed = refl

-- nothing was denied in it, and no reading failed
not_denied : list_any is_denial (answers_in failed_behind) ≡ false
unfolding failed_behind
not_denied = refl

-- a reading that failed, and a no behind it
failed_reading : HasCause code_reasons EpochFault ((Reading, Read (Ok 7)) ∷ (Reading, Read (Err (record {}))) ∷ [])
failed_reading = inl refl

denied : (reason : Reasons) → reason.grows → HasCause reason GrowFailed ((Growing (memory_growth 0 65536 None), Grown (Ok false)) ∷ [])
denied reason grows = inl (grows, refl)

-- a hook that passed is no cause, and a refusal of the store's own needs none
no_fault : list_any is_hook_fault (answers_in ((Passing CallingWasm, Passed (Ok tt)) ∷ [])) ≡ false
no_fault = refl

own_refusal : HasCause code_reasons NoHostBody []
own_refusal = tt

-- which no code refuses by a condition of a call
no_condition : HasCause code_reasons WrongStore [] ≡ ⊥
no_condition = refl

-- a growth past its declared maximum fails with and without a limiter, and one within it does not
past_maximum : (m : Machine) → IsVain {A = ℕ} (plan 4294967296 (memory_growth 65536 196608 (Some 131072)) m 0)
past_maximum m = refl

within_it : growth_rule false 4294967296 (memory_growth 65536 131072 (Some 131072)) ≡ Grows
within_it = refl
