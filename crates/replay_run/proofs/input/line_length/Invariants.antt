use Rattle.std.proofs.Common.{◌≡◌, ◌+◌, length}
use Rattle.replay_run.specs.Inputs.{line_length}
use Rattle.replay_run.proofs.input.line_length.Given as goal

abbrev pub invariant-bytes : goal.invariant-bytes
invariant-bytes l =
    (line_length l.fn.input ≡ l.before + line_length l.rest) × (length l.fn.input ≡ l.before + length l.rest)

abbrev pub decreases-bytes : goal.decreases-bytes
decreases-bytes l = length l.rest
