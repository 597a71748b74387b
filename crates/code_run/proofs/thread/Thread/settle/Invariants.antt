use Rattle.std.proofs.Common.{◌≡◌, length}
use Rattle.spec_execution.specs.Outcomes.{World}
use Rattle.code_stack.specs.Layers.{means}
use Rattle.code_run.specs.Steps.{seen}
use Rattle.code_run.proofs.thread.Thread.settle.Given as goal

abbrev pub invariant-ends : goal.invariant-ends
invariant-ends l = (w : World) → means (seen l.initial.self) w ≡ means (seen l.self) w

abbrev pub decreases-ends : goal.decreases-ends
decreases-ends l = length l.self.layers
