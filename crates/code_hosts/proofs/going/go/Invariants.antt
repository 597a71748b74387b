use Rattle.std.proofs.Common.{◌≡◌, ◌≤◌, ◌+◌, ◌-◌, ◌*◌, true}
use Rattle.spec_machine.specs.Machine.{debt}
use Rattle.code_leaps.specs.Turns.{Passes}
use Rattle.code_hosts.specs.Contexts.{moves_in, opened_in}
use Rattle.code_hosts.specs.Courses.{due_in}
use Rattle.code_hosts.specs.Rounds.{ahead}
use Rattle.code_hosts.specs.States.{due_of}
use Rattle.code_hosts.proofs.going.go.Given as goal
use Rattle.store_state.specs.Tanks.{most_owed}
use Rattle.code_leaps.specs.Spending.{most_cost}

abbrev pub invariant-parts : goal.invariant-parts
invariant-parts g l = record {
  within : l.made ≤ l.left;
  fuel : l.context.bounds.rules.consumes_fuel ≡ true → debt l.held.fuel + (l.left - l.made) * most_cost ≤ most_owed;
  passes : Passes (opened_in l.context) (moves_in l.context g.W.Surroundings.moves)
      (due_in l.fn.course) l.initial.held
      l.initial.world l.made (due_of l.now l.around.items) l.held
      l.world;
}

abbrev pub decreases-parts : goal.decreases-parts
decreases-parts g l = ahead l.now l.around.items (l.left - l.made)
