-- The bodies of a script's host hand out no function that they were not shown.
use Rattle.std.specs.Prelude.{◌≡◌, List, [], length, nat_lt}
use Rattle.wasm_values.specs.declared.store_id.StoreId.{StoreId}
use Rattle.code_hosts.specs.Asked as hosts
use Rattle.spec_machine.specs.Machine.{new_machine}
use Rattle.spec_execution.specs.Askings.{Asking, Outside, Relations, Chain}
use Rattle.law_confined.specs.Shown.{unshown}
use Rattle.wasm_call.specs.Outside.{Readings}
use Rattle.wasm_call.proofs.HeardLemmas.{heard_moves}
use Rattle.script_commands.specs.declared.script.Script.{Script}
use Rattle.script_data.specs.HostData.{GrowsByScript, HooksByScript, BehavesByScript}
use Rattle.script_data.specs.declared.script_data.ScriptData.{ScriptData}
use Rattle.script_host.specs.ScriptSteps.{HostParts, Steps}
use Rattle.law_scripts.specs.Literals.{AreByNames}
use Rattle.law_scripts.proofs.ScriptedHosts.{nothing_is_unshown}
use Rattle.wasm_run.specs.Relations.{script_relations, around_script}
use Rattle.wasm_run.specs.Starts.{script_engine, start_host}

pub unshown_none :
    {E : Type 0} (readings : Readings E) (script : Script) → AreByNames script.bodies
    → (id : StoreId) (epochs : E) (host_data : ScriptData) (heard : List Asking) (after : Outside ScriptData HostParts E)
    → Chain (script_relations readings) (around_script host_data (start_host script.bodies) epochs) heard after
    → unshown id heard ≡ []
unshown_none {E} readings script by_names id epochs host_data heard after chained =
    let r : Relations ScriptData HostParts E =
    hosts.asked (λ s growth answer t. GrowsByScript s answer t) (λ h body. nat_lt body (length h.bodies)) HooksByScript
    BehavesByScript readings (λ h s body place event view after say k t. Steps h s body place view after say k t) in
    let before : Outside ScriptData HostParts E = around_script host_data (start_host script.bodies) epochs in
    nothing_is_unshown (new_machine id (script_engine script.engine)) r
    (λ h k s t body place after event view what goes. goes) heard before after
    (heard_moves r before after heard chained) by_names
