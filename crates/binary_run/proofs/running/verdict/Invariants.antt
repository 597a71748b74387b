use Rattle.std.proofs.Common.{◌≡◌, length}
use Rattle.binary_run.specs.Statuses.{verdict}
use Rattle.binary_run.proofs.running.verdict.Given as goal

abbrev pub invariant-replies : goal.invariant-replies
invariant-replies l = verdict l.fn.replies ≡ verdict l.rest

abbrev pub decreases-replies : goal.decreases-replies
decreases-replies l = length l.rest
