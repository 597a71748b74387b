-- The code of what contracts see of a script's host, by which a proof tells its values apart. This project's own.
use Rattle.std.specs.Prelude.{ℕ, List, refl}
use Rattle.std.specs.Coded.{Coded, code_by, coded×, coded_ℕ, coded_list}
use Rattle.script_commands.specs.contracts.host_bodies.Action as action
use Rattle.script_commands.specs.declared.host_bodies.Action.{Action}
use Rattle.script_host.specs.ScriptSteps.{HostParts, host_parts}

abbrev pub host_code : Coded HostParts
host_code =
    code_by (List (List Action) × (ℕ × List (List ℕ)))
    (coded× (coded_list (coded_list action.the_row.coded)) (coded× coded_ℕ (coded_list (coded_list coded_ℕ))))
    (λ h. (h.bodies, (h.faults, h.notes))) (λ p. host_parts p.0 p.1.0 p.1.1) (λ _. refl)
