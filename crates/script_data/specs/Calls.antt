-- What a program calls for a hook and for a deadline behaviour, by what a call may do. All of it is this project's own.
use Rattle.std.specs.Borrow.{MutBor}
use Rattle.std.specs.Prelude.{⊤, Result}
use Rattle.wasm_meter.specs.declared.call_hook.CallHook.{CallHook}
use Rattle.wasm_meter.specs.declared.deadline.UpdateDeadline.{UpdateDeadline}
use Rattle.wasm_meter.specs.declared.faults.BehaviourFailed.{BehaviourFailed}
use Rattle.wasm_meter.specs.declared.faults.HookFailed.{HookFailed}
use Rattle.script_data.specs.HostData.{HooksByScript, BehavesByScript}
use Rattle.script_data.specs.declared.script_data.ScriptData.{ScriptData}

-- each call that is possible gives the next answer of the hook, and keeps the event
abbrev pub KeepsHook : (MutBor ScriptData → CallHook → Result ⊤ HookFailed → MutBor ScriptData → Type 0) → Type 0
KeepsHook post =
    (old : MutBor ScriptData) (event : CallHook) (answer : Result ⊤ HookFailed) (new : MutBor ScriptData) →
    post old event answer new → HooksByScript old.now event answer new.now

-- each call that is possible gives the next answer of the deadline behaviour
abbrev pub KeepsBehaviour : (MutBor ScriptData → Result UpdateDeadline BehaviourFailed → MutBor ScriptData → Type 0) → Type 0
KeepsBehaviour post =
    (old : MutBor ScriptData) (answer : Result UpdateDeadline BehaviourFailed) (new : MutBor ScriptData) →
    post old answer new → BehavesByScript old.now answer new.now
