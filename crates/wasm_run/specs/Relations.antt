-- What is outside of a script's store, and how it answers. This project's own.
use Rattle.std.specs.Prelude.{length, nat_lt}
use Rattle.spec_execution.specs.Askings.{Outside}
use Rattle.wasm_call.specs.Outside.{Moving, Readings, asked}
use Rattle.script_data.specs.HostData.{GrowsByScript, HooksByScript, BehavesByScript}
use Rattle.script_data.specs.declared.script_data.ScriptData.{ScriptData}
use Rattle.script_host.specs.ScriptSteps.{HostParts, Steps}

-- how what is outside of a script goes: its limiter, its hook and its deadline behaviour give the answers of their lists,
-- and its host steps the bodies of its list
abbrev pub script_relations : {E : Type 0} → Readings E → Moving ScriptData HostParts E
script_relations readings =
    asked (λ s growth answer t. GrowsByScript s answer t) (λ h body. nat_lt body (length h.bodies)) HooksByScript
    BehavesByScript readings (λ h s body place event view after say k t. Steps h s body place view after say k t)

abbrev pub around_script : {E : Type 0} → ScriptData → HostParts → E → Outside ScriptData HostParts E
around_script host_data host epochs = record { host_data = host_data; host = host; epochs = epochs }
