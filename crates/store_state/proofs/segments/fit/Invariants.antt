use Rattle.std.proofs.Common.{◌≡◌, ◌-◌, ◌≤◌, List, length}
use Rattle.store_state.specs.Machine.{instances_of}
use Rattle.store_state.specs.Parts.{Names}
use Rattle.store_state.proofs.segments.fit.Given as goal

abbrev pub invariant-fit : goal.invariant-fit
invariant-fit l = record {
  within : length l.list.items ≤ l.instances;
  same : (ns : List Names) → length ns ≡ l.instances → instances_of ns l.list.items ≡ instances_of ns l.initial.list.items;
}

abbrev pub decreases-fit : goal.decreases-fit
decreases-fit l = l.instances - length l.list.items
