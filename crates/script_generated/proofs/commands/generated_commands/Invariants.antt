use Rattle.std.proofs.Common.{◌≡◌, ◌≤◌, ◌++◌, ◌-◌}
use Rattle.script_generated.specs.Commands.{calls, first_commands}
use Rattle.script_generated.proofs.commands.generated_commands.Given as goal

abbrev pub invariant-loop-k : goal.invariant-loop-k
invariant-loop-k l = (l.k ≤ l.n) × (l.commands.items ≡ first_commands ++ calls l.k)

abbrev pub decreases-loop-k : goal.decreases-loop-k
decreases-loop-k l = l.n - l.k
