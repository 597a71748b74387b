-- Whom a call asks where the host has bodies, and how that goes from one state to another. This project's own.
use Rattle.std.specs.Prelude.{◌≡◌, ℕ, Bool, true, ⊤, Result}
use Rattle.wasm_meter.specs.Growths.{Growth}
use Rattle.wasm_meter.specs.declared.call_hook.CallHook.{CallHook}
use Rattle.wasm_meter.specs.declared.deadline.UpdateDeadline.{UpdateDeadline}
use Rattle.wasm_meter.specs.declared.faults.BehaviourFailed.{BehaviourFailed}
use Rattle.wasm_meter.specs.declared.faults.EpochFailed.{EpochFailed}
use Rattle.wasm_meter.specs.declared.faults.HookFailed.{HookFailed}
use Rattle.wasm_meter.specs.declared.faults.LimiterFailed.{LimiterFailed}
use Rattle.spec_execution.specs.Askings.{Question, Passing, Behaving, Outside, Relations}
use Rattle.law_code.specs.Answers.{IsTypedAnswer}
use Rattle.wasm_host.specs.Hosts.{Steps}
use Rattle.code_run.specs.Asking.{Moving}
use Rattle.code_hosts.specs.declared.bounds.Bounds.{Bounds}

-- a hook and a deadline behaviour are asked only where one is set; an operation of a step may read the epoch, whether the
-- engine reads it or not
abbrev pub MayAsk : Bounds → Question → Type 0
MayAsk bounds (Passing event) = bounds.hooked ≡ true
MayAsk bounds Behaving = (bounds.rules.reads_epochs ≡ true) × (bounds.rules.behaving ≡ true)
MayAsk bounds q = Unit {0}

-- how what is outside goes on in a run that is bounded so; the types in an answer are types
abbrev pub Moves : {W : Type 0} → Bounds → Moving W → Moving W
Moves bounds moves old q a new = MayAsk bounds q × IsTypedAnswer a × moves old q a new

-- ---- what is outside where it is host data, a host and an epoch source

-- the relations of limiters, of epoch sources, of deadline behaviours and of hooks
abbrev pub Growths : Type 0 → Type 1
Growths T = T → Growth → Result Bool LimiterFailed → T → Type 0

abbrev pub Readings : Type 0 → Type 1
Readings E = E → Result ℕ EpochFailed → E → Type 0

abbrev pub Behaves : Type 0 → Type 1
Behaves T = T → Result UpdateDeadline BehaviourFailed → T → Type 0

abbrev pub Hooks : Type 0 → Type 1
Hooks T = T → CallHook → Result ⊤ HookFailed → T → Type 0

-- a limiter, a host, a hook, a deadline behaviour and an epoch source answer so
abbrev pub asked : {T H E : Type 0} → Growths T → (H → ℕ → Bool) → Hooks T → Behaves T → Readings E → Steps H T →
    Relations T H E
asked growths has hooks behaves readings steps = record {
  growths = growths;
  has = has;
  hooks = hooks;
  readings = readings;
  behaves = behaves;
  steps = steps;
}

abbrev pub outside_by : {T H E : Type 0} → T → H → E → Outside T H E
outside_by host_data host epochs = record { host_data = host_data; host = host; epochs = epochs }
