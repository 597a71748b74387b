-- The laws of host data and of an epoch source whose answers are given in lists.
use Rattle.std.proofs.Common.{inl, inr, subst, sym, ap, refl, true≢false}
use Rattle.std.proofs.lemmas.Bool.{false≢true}
use Rattle.std.proofs.Math.Nat.{lt-suc_self}
use Rattle.std.specs.Prelude.{◌≡◌, ℕ, suc, ◌-◌, ◌^◌, nat_lt, if◌then◌else◌, drop, slice_get, Bool, true, false, Option, Some, Ok, Err, is_err}
use Rattle.std.specs.Result.{result_unwrap_or}
use Rattle.wasm_meter.specs.Counting.{Rose}
use Rattle.wasm_meter.specs.Lists.{one_more, growth_by, growth_answer, with_growth, after_growth, hook_by, hook_answer, with_hook, after_hook, behaviour_by, behaviour_answer, with_behaviour, after_behaviour, reading_by, reading_answer, with_reading, after_reading}
use Rattle.wasm_meter.specs.declared.faults.BehaviourFailed.{BehaviourFailed}
use Rattle.wasm_meter.specs.declared.faults.EpochFailed.{EpochFailed}
use Rattle.wasm_meter.specs.declared.faults.HookFailed.{HookFailed}
use Rattle.wasm_meter.specs.declared.faults.LimiterFailed.{LimiterFailed}
use Rattle.wasm_meter.specs.declared.lists.BehaviourAnswer.{BehaviourAnswer}
use Rattle.wasm_meter.specs.declared.lists.BehaviourAnswer.TheVariants as behaviour
use Rattle.wasm_meter.specs.declared.lists.EpochAnswer.{EpochAnswer}
use Rattle.wasm_meter.specs.declared.lists.EpochAnswer.TheVariants as epoch
use Rattle.wasm_meter.specs.declared.lists.GrowthAnswer.{GrowthAnswer}
use Rattle.wasm_meter.specs.declared.lists.GrowthAnswer.TheVariants as growth
use Rattle.wasm_meter.specs.declared.lists.HookAnswer.{HookAnswer}
use Rattle.wasm_meter.specs.declared.lists.HookAnswer.TheVariants as hook
use Rattle.wasm_meter.specs.declared.lists.ListedData.{ListedData}
use Rattle.wasm_meter.specs.declared.lists.ListedEpochs.{ListedEpochs}

-- one more than a count rose, or is the last value
rises_by : (n : ℕ) (b : Bool) → Rose n (if b then suc n else 2 ^ 64 - 1)
rises_by n true = inl (lt-suc_self n)
rises_by n false = inr refl

pub rises : (n : ℕ) → Rose n (one_more n)
rises n = rises_by n (nat_lt n (2 ^ 64 - 1))

-- by cases on the answer that is next
denies_by : (s : ListedData) (o : Option GrowthAnswer) → Ok false ≡ growth_by o → Rose s.denials (with_growth s o).denials
denies_by s (Some growth.No) e = rises s.denials
denies_by s _ e = absurd (false≢true (ap (λ r. result_unwrap_or r true) e))

grows_by : (s : ListedData) (o : Option GrowthAnswer) (fault : LimiterFailed) → Err fault ≡ growth_by o → Rose s.limiter_faults (with_growth s o).limiter_faults
grows_by s (Some growth.Fault) fault e = rises s.limiter_faults
grows_by s _ fault e = absurd (true≢false (ap is_err e))

hooks_by : (s : ListedData) (o : Option HookAnswer) (fault : HookFailed) → Err fault ≡ hook_by o → Rose s.hook_faults (with_hook s o).hook_faults
hooks_by s (Some hook.Fault) fault e = rises s.hook_faults
hooks_by s _ fault e = absurd (true≢false (ap is_err e))

behaves_by : (s : ListedData) (o : Option BehaviourAnswer) (fault : BehaviourFailed) → Err fault ≡ behaviour_by o → Rose s.behaviour_faults (with_behaviour s o).behaviour_faults
behaves_by s (Some behaviour.Fault) fault e = rises s.behaviour_faults
behaves_by s _ fault e = absurd (true≢false (ap is_err e))

reads_by : (s : ListedEpochs) (o : Option EpochAnswer) (last : ℕ) (fault : EpochFailed) → Err fault ≡ reading_by o last → Rose s.faults (with_reading s o).faults
reads_by s (Some epoch.Fault) last fault e = rises s.faults
reads_by s _ last fault e = absurd (true≢false (ap is_err e))

-- the laws
pub growth_denies : (s t : ListedData) → Ok false ≡ growth_answer s → t ≡ after_growth s → Rose s.denials t.denials
growth_denies s t e f = subst (λ x. Rose s.denials x.denials) (sym f) (denies_by (record s { growths = drop 1 s.growths }) (slice_get s.growths 0) e)

pub growth_fails : (s t : ListedData) (fault : LimiterFailed) → Err fault ≡ growth_answer s → t ≡ after_growth s → Rose s.limiter_faults t.limiter_faults
growth_fails s t fault e f = subst (λ x. Rose s.limiter_faults x.limiter_faults) (sym f) (grows_by (record s { growths = drop 1 s.growths }) (slice_get s.growths 0) fault e)

pub hook_fails : (s t : ListedData) (fault : HookFailed) → Err fault ≡ hook_answer s → t ≡ after_hook s → Rose s.hook_faults t.hook_faults
hook_fails s t fault e f = subst (λ x. Rose s.hook_faults x.hook_faults) (sym f) (hooks_by (record s { hooks = drop 1 s.hooks }) (slice_get s.hooks 0) fault e)

pub behaviour_fails : (s t : ListedData) (fault : BehaviourFailed) → Err fault ≡ behaviour_answer s → t ≡ after_behaviour s → Rose s.behaviour_faults t.behaviour_faults
behaviour_fails s t fault e f = subst (λ x. Rose s.behaviour_faults x.behaviour_faults) (sym f) (behaves_by (record s { behaviours = drop 1 s.behaviours }) (slice_get s.behaviours 0) fault e)

pub reading_fails : (s t : ListedEpochs) (fault : EpochFailed) → Err fault ≡ reading_answer s → t ≡ after_reading s → Rose s.faults t.faults
reading_fails s t fault e f = subst (λ x. Rose s.faults x.faults) (sym f) (reads_by (record s { answers = drop 1 s.answers }) (slice_get s.answers 0) s.last fault e)
