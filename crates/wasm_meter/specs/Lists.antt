-- Host data and an epoch source whose answers are given in lists. All of it is this project's own.
use Rattle.std.specs.Prelude.{◌≡◌, ℕ, suc, ◌-◌, ◌^◌, ◌≤◌, drop, nat_lt, if◌then◌else◌, slice_get, Bool, true, false, Option, Some, None, ⊤, Result, Ok, Err}
use Rattle.wasm_meter.specs.Counting.{NoneFell}
use Rattle.wasm_meter.specs.declared.deadline.UpdateDeadline.{UpdateDeadline}
use Rattle.wasm_meter.specs.declared.deadline.UpdateDeadline.TheVariants as update
use Rattle.wasm_meter.specs.declared.faults.BehaviourFailed.{BehaviourFailed}
use Rattle.wasm_meter.specs.declared.faults.EpochFailed.{EpochFailed}
use Rattle.wasm_meter.specs.declared.faults.HookFailed.{HookFailed}
use Rattle.wasm_meter.specs.declared.faults.LimiterFailed.{LimiterFailed}
use Rattle.wasm_meter.specs.declared.lists.BehaviourAnswer.{BehaviourAnswer}
use Rattle.wasm_meter.specs.declared.lists.BehaviourAnswer.TheVariants as behaviour
use Rattle.wasm_meter.specs.declared.lists.EpochAnswer.{EpochAnswer}
use Rattle.wasm_meter.specs.declared.lists.EpochAnswer.TheVariants as epoch
use Rattle.wasm_meter.specs.declared.lists.GrowthAnswer.{GrowthAnswer}
use Rattle.wasm_meter.specs.declared.lists.GrowthAnswer.TheVariants as growth
use Rattle.wasm_meter.specs.declared.lists.HookAnswer.{HookAnswer}
use Rattle.wasm_meter.specs.declared.lists.HookAnswer.TheVariants as hook
use Rattle.wasm_meter.specs.declared.lists.ListedData.{ListedData}
use Rattle.wasm_meter.specs.declared.lists.ListedEpochs.{ListedEpochs}

-- a count after one more; it stops at 2^64 - 1
abbrev pub one_more : ℕ → ℕ
one_more n = if nat_lt n (2 ^ 64 - 1) then suc n else 2 ^ 64 - 1

-- by the answer that is next
abbrev pub growth_by : Option GrowthAnswer → Result Bool LimiterFailed
growth_by None = Ok true
growth_by (Some growth.Yes) = Ok true
growth_by (Some growth.No) = Ok false
growth_by (Some growth.Fault) = Err (record {})

-- what the limiter answers to the next question
abbrev pub growth_answer : ListedData → Result Bool LimiterFailed
growth_answer s = growth_by (slice_get s.growths 0)

-- the counts after this answer
abbrev pub with_growth : ListedData → Option GrowthAnswer → ListedData
with_growth s None = s
with_growth s (Some growth.Yes) = s
with_growth s (Some growth.No) = record s { denials = one_more s.denials }
with_growth s (Some growth.Fault) = record s { limiter_faults = one_more s.limiter_faults }

-- the host data after the next question to the limiter
abbrev pub after_growth : ListedData → ListedData
after_growth s = with_growth (record s { growths = drop 1 s.growths }) (slice_get s.growths 0)

-- by the answer that is next
abbrev pub hook_by : Option HookAnswer → Result ⊤ HookFailed
hook_by None = Ok tt
hook_by (Some hook.Done) = Ok tt
hook_by (Some hook.Fault) = Err (record {})

-- what the next hook answers
abbrev pub hook_answer : ListedData → Result ⊤ HookFailed
hook_answer s = hook_by (slice_get s.hooks 0)

-- the count after this answer
abbrev pub with_hook : ListedData → Option HookAnswer → ListedData
with_hook s None = s
with_hook s (Some hook.Done) = s
with_hook s (Some hook.Fault) = record s { hook_faults = one_more s.hook_faults }

-- the host data after the next hook answered
abbrev pub after_hook : ListedData → ListedData
after_hook s = with_hook (record s { hooks = drop 1 s.hooks }) (slice_get s.hooks 0)

-- by the answer that is next
abbrev pub behaviour_by : Option BehaviourAnswer → Result UpdateDeadline BehaviourFailed
behaviour_by None = Ok update.Interrupt
behaviour_by (Some behaviour.Interrupt) = Ok update.Interrupt
behaviour_by (Some (behaviour.Continue ticks)) = Ok (update.Continue ticks)
behaviour_by (Some behaviour.Fault) = Err (record {})

-- what the deadline behaviour answers next
abbrev pub behaviour_answer : ListedData → Result UpdateDeadline BehaviourFailed
behaviour_answer s = behaviour_by (slice_get s.behaviours 0)

-- the count after this answer
abbrev pub with_behaviour : ListedData → Option BehaviourAnswer → ListedData
with_behaviour s None = s
with_behaviour s (Some behaviour.Interrupt) = s
with_behaviour s (Some (behaviour.Continue ticks)) = s
with_behaviour s (Some behaviour.Fault) = record s { behaviour_faults = one_more s.behaviour_faults }

-- the host data after the deadline behaviour answered
abbrev pub after_behaviour : ListedData → ListedData
after_behaviour s = with_behaviour (record s { behaviours = drop 1 s.behaviours }) (slice_get s.behaviours 0)

-- no count of the host data is lower
abbrev pub Keeps : ListedData → ListedData → Type 0
Keeps = NoneFell (λ s. s.denials) (λ s. s.limiter_faults) (λ s. s.hook_faults) (λ s. s.behaviour_faults)

-- the limiter gives the next answer
abbrev pub GrowsByList : ListedData → Result Bool LimiterFailed → ListedData → Type 0
GrowsByList s answer t = (answer ≡ growth_answer s) × (t ≡ after_growth s) × Keeps s t

-- a hook gives the next answer
abbrev pub HooksByList : ListedData → Result ⊤ HookFailed → ListedData → Type 0
HooksByList s answer t = (answer ≡ hook_answer s) × (t ≡ after_hook s) × Keeps s t

-- a deadline behaviour gives the next answer
abbrev pub BehavesByList : ListedData → Result UpdateDeadline BehaviourFailed → ListedData → Type 0
BehavesByList s answer t = (answer ≡ behaviour_answer s) × (t ≡ after_behaviour s) × Keeps s t

-- by the answer that is next; past the last one it is the last reading
abbrev pub reading_by : Option EpochAnswer → ℕ → Result ℕ EpochFailed
reading_by None last = Ok last
reading_by (Some (epoch.Reading ticks)) last = Ok ticks
reading_by (Some epoch.Fault) last = Err (record {})

-- the next reading
abbrev pub reading_answer : ListedEpochs → Result ℕ EpochFailed
reading_answer s = reading_by (slice_get s.answers 0) s.last

-- the last reading and the count after this answer
abbrev pub with_reading : ListedEpochs → Option EpochAnswer → ListedEpochs
with_reading s None = s
with_reading s (Some (epoch.Reading ticks)) = record s { last = ticks }
with_reading s (Some epoch.Fault) = record s { faults = one_more s.faults }

-- the epoch source after the next reading
abbrev pub after_reading : ListedEpochs → ListedEpochs
after_reading s = with_reading (record s { answers = drop 1 s.answers }) (slice_get s.answers 0)

-- the epoch source gives the next answer
abbrev pub ReadsByList : ListedEpochs → Result ℕ EpochFailed → ListedEpochs → Type 0
ReadsByList s answer t = (answer ≡ reading_answer s) × (t ≡ after_reading s) × (s.faults ≤ t.faults)
