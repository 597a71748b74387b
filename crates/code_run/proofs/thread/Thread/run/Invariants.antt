use Rattle.std.proofs.Common.{◌≡◌, ◌≤◌, ◌+◌, ◌-◌, ◌*◌, false}
use Rattle.spec_machine.specs.Machine.{debt}
use Rattle.code_run.specs.Asking.{Asks, ruled_in}
use Rattle.code_run.specs.Pausing.{due}
use Rattle.code_leaps.specs.Running.{charged}
use Rattle.code_leaps.specs.Spending.{most_cost}
use Rattle.code_run.specs.Steps.{seen}
use Rattle.code_leaps.specs.Turns.{going, Passes}
use Rattle.code_run.proofs.thread.Thread.run.Given as goal

abbrev pub invariant-turns : goal.invariant-turns
invariant-turns g l = record {
  within : l.made ≤ l.turns;
  unmetered : l.context.rules.consumes_fuel ≡ false → l.owed ≤ l.made;
  debt : debt l.held.fuel + l.owed ≤ debt l.initial.held.fuel + l.made * most_cost;
  passes : Passes (ruled_in l.context)
      (Asks l.context.rules g.W.Surroundings.moves) (due l.initial.self)
      l.initial.held l.initial.world l.made (going l.checks (seen l.self))
      (charged l.context.rules.consumes_fuel l.held l.owed) l.world;
}

abbrev pub decreases-turns : goal.decreases-turns
decreases-turns g l = l.turns - l.made
