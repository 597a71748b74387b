use Rattle.std.proofs.Common.{◌≡◌, length}
use Rattle.spec_machine.specs.Machine.{Machine}
use Rattle.store_state.specs.Machine.{run_machine}
use Rattle.store_state.specs.Parts.{HeldParts}
use Rattle.wasm_host.specs.Scopes.{scope_of}
use Rattle.wasm_call.specs.Arguments.{are_fitting}
use Rattle.wasm_call.proofs.arguments.are_fitting.Given as goal

-- what is left decides
abbrev pub invariant-loop-rest : goal.invariant-loop-rest
invariant-loop-rest l =
    (base : Machine) (held : HeldParts) →
    are_fitting (run_machine base l.program held) (scope_of l.scope) l.rest l.wanted
    ≡ are_fitting (run_machine base l.program held) (scope_of l.scope) l.args l.types

abbrev pub decreases-loop-rest : goal.decreases-loop-rest
decreases-loop-rest l = length l.rest
