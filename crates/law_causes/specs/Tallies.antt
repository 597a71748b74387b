-- How often what is outside has failed, or has said no; and that a refusal by it comes only where its count rose. This
-- project's own.
use Rattle.std.specs.Prelude.{◌⊎◌, ℕ, ◌≤◌, Bool, false, ⊤, Result, Ok, Err}
use Rattle.wasm_types.specs.declared.faults.OutOfMemory.{OutOfMemory}
use Rattle.wasm_meter.specs.Counting.{Rose, NoneFell}
use Rattle.wasm_meter.specs.Growths.{Growth}
use Rattle.wasm_meter.specs.declared.call_hook.CallHook.{CallHook}
use Rattle.wasm_meter.specs.declared.deadline.UpdateDeadline.{UpdateDeadline}
use Rattle.wasm_meter.specs.declared.faults.BehaviourFailed.{BehaviourFailed}
use Rattle.wasm_meter.specs.declared.faults.EpochFailed.{EpochFailed}
use Rattle.wasm_meter.specs.declared.faults.HookFailed.{HookFailed}
use Rattle.wasm_meter.specs.declared.faults.LimiterFailed.{LimiterFailed}
use Rattle.wasm_values.specs.declared.refusals.Refusal.{Refusal}
use Rattle.wasm_values.specs.declared.refusals.Refusal.TheVariants.{GrowFailed, LimiterFault, HookFault, EpochFault, HostFault}
use Rattle.spec_machine.specs.declared.reply.Reply.{Reply}
use Rattle.spec_machine.specs.declared.reply.Reply.TheVariants.{Refused}
use Rattle.spec_execution.specs.Askings.{View, Outside, Relations}
use Rattle.spec_execution.specs.declared.answer.Answer.{Answer as Say}
use Rattle.spec_execution.specs.declared.answer.Answer.TheVariants.{Fail}
use Rattle.spec_execution.specs.declared.answer.Event.{Event}

-- the counts of host data, of an epoch source and of a host: no answer lowers one, and each failure, and each no of the
-- limiter, raises its own
pub record IsCounted {T H E : Type 0} (r : Relations T H E)
    (denials limiter_faults hook_faults behaviour_faults : T → ℕ) (epoch_faults : E → ℕ) (host_faults : H → ℕ) : Type 0
  where
    pub growths_keep : (s t : T) (g : Growth) (a : Result Bool LimiterFailed) → r.growths s g a t →
        NoneFell denials limiter_faults hook_faults behaviour_faults s t
    pub growths_deny : (s t : T) (g : Growth) → r.growths s g (Ok false) t → Rose (denials s) (denials t)
    pub growths_fail : (s t : T) (g : Growth) (fault : LimiterFailed) → r.growths s g (Err fault) t →
        Rose (limiter_faults s) (limiter_faults t)
    pub hooks_keep : (s t : T) (event : CallHook) (a : Result ⊤ HookFailed) → r.hooks s event a t →
        NoneFell denials limiter_faults hook_faults behaviour_faults s t
    pub hooks_fail : (s t : T) (event : CallHook) (fault : HookFailed) → r.hooks s event (Err fault) t →
        Rose (hook_faults s) (hook_faults t)
    pub behaves_keep : (s t : T) (a : Result UpdateDeadline BehaviourFailed) → r.behaves s a t →
        NoneFell denials limiter_faults hook_faults behaviour_faults s t
    pub behaves_fail : (s t : T) (fault : BehaviourFailed) → r.behaves s (Err fault) t →
        Rose (behaviour_faults s) (behaviour_faults t)
    pub readings_keep : (s t : E) (a : Result ℕ EpochFailed) → r.readings s a t → epoch_faults s ≤ epoch_faults t
    pub readings_fail : (s t : E) (fault : EpochFailed) → r.readings s (Err fault) t →
        Rose (epoch_faults s) (epoch_faults t)
    pub steps_keep : (h k : H) (s t : T) (body place after : ℕ) (event : Event) (view : View)
        (say : Result Say OutOfMemory) → r.steps h s body place event view after say k t →
        (host_faults h ≤ host_faults k) × NoneFell denials limiter_faults hook_faults behaviour_faults s t
    pub steps_fail : (h k : H) (s t : T) (body place after : ℕ) (event : Event) (view : View) →
        r.steps h s body place event view after (Ok Fail) k t → Rose (host_faults h) (host_faults k)

-- by what is outside before and behind
module _ {T H E : Type 0} (denials limiter_faults hook_faults behaviour_faults : T → ℕ) (epoch_faults : E → ℕ)
    (host_faults : H → ℕ) (old new : Outside T H E) (reason : Type 0) where
  -- a refusal comes only where the count of what gave it rose, or stands at its last value; a growth fails by a denial,
  -- or else for a reason of its own
  abbrev pub RefusedByCounts : Refusal → Type 0
  RefusedByCounts GrowFailed = Rose (denials old.host_data) (denials new.host_data) ⊎ reason
  RefusedByCounts LimiterFault = Rose (limiter_faults old.host_data) (limiter_faults new.host_data)
  RefusedByCounts HookFault = Rose (hook_faults old.host_data) (hook_faults new.host_data)
  RefusedByCounts EpochFault =
      Rose (epoch_faults old.epochs) (epoch_faults new.epochs)
      ⊎ Rose (behaviour_faults old.host_data) (behaviour_faults new.host_data)
  RefusedByCounts HostFault = Rose (host_faults old.host) (host_faults new.host)
  RefusedByCounts why = Unit {0}

  -- the same of a reply
  abbrev pub RepliedByCounts : Reply → Type 0
  RepliedByCounts (Refused why) = RefusedByCounts why
  RepliedByCounts reply = Unit {0}
