use Rattle.std.proofs.Common.{◌≡◌, ℕ, ◌-◌, List, drop, length}
use Rattle.spec_machine.specs.Machine.{Machine}
use Rattle.spec_execution.specs.Segments.{Taken, take_elements}
use Rattle.store_state.specs.Machine.{run_machine}
use Rattle.instance_parts.specs.Taking.{ElementsStand, SameDatas}
use Rattle.instance_parts.proofs.taking.take_elements.Given as goal

-- what is left is what is still to be taken
abbrev pub invariant-elements : goal.invariant-elements
invariant-elements l = record {
  same : (base : Machine) (fs : List ℕ) (go : Machine → Taken) →
      take_elements l.instance fs l.globals (run_machine base l.program l.held) l.segment l.rest go
      ≡ take_elements l.instance fs l.globals (run_machine base l.program l.fn.held) l.first (drop l.first l.declared) go;
  stand : ElementsStand l.held l.instance l.segment l.rest;
  datas : SameDatas l.instance l.fn.held l.held;
  so_far : length l.rest ≡ length l.declared - l.segment;
}

abbrev pub decreases-elements : goal.decreases-elements
decreases-elements l = length l.rest
