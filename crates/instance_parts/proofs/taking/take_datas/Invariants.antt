use Rattle.std.proofs.Common.{◌≡◌, ℕ, ◌-◌, List, drop, length}
use Rattle.spec_machine.specs.Machine.{Machine}
use Rattle.spec_execution.specs.Segments.{take_datas}
use Rattle.store_state.specs.Machine.{run_machine}
use Rattle.instance_parts.specs.Taking.{DatasStand}
use Rattle.instance_parts.proofs.taking.take_datas.Given as goal

-- what is left is what is still to be taken
abbrev pub invariant-datas : goal.invariant-datas
invariant-datas l = record {
  same : (base : Machine) (fs : List ℕ) →
      take_datas l.instance fs l.globals (run_machine base l.program l.held) l.segment l.rest
      ≡ take_datas l.instance fs l.globals (run_machine base l.program l.fn.held) l.first (drop l.first l.declared);
  stand : DatasStand l.held l.instance l.segment l.rest;
  so_far : length l.rest ≡ length l.declared - l.segment;
}

abbrev pub decreases-datas : goal.decreases-datas
decreases-datas l = length l.rest
