use Rattle.std.proofs.Common.{◌≡◌, ◌++◌, length}
use Rattle.spec_machine.specs.Machine.{Machine}
use Rattle.spec_execution.specs.Entering.{values_at}
use Rattle.wasm_host.proofs.values.values_at.Given as goal

abbrev pub invariant-loop-wanted : goal.invariant-loop-wanted
invariant-loop-wanted l =
    (m : Machine) → m.id ≡ l.id → values_at m l.types l.raws ≡ l.vals.items ++ values_at m l.wanted l.rest

abbrev pub decreases-loop-wanted : goal.decreases-loop-wanted
decreases-loop-wanted l = length l.wanted
