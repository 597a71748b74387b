use Rattle.std.proofs.Common.{◌≡◌, length, map, string_bytes, true}
use Rattle.spec_machine.specs.Machine.{are_engine_limits}
use Rattle.binary_run.specs.Words.{asked_behind, frames, no_options}
use Rattle.binary_run.proofs.words.asked.Given as goal

abbrev pub invariant-options : goal.invariant-options
invariant-options l =
    (asked_behind no_options (map string_bytes l.fn.words) ≡ asked_behind l.options (map string_bytes l.rest))
    × (are_engine_limits frames l.options.turns ≡ true)

abbrev pub decreases-options : goal.decreases-options
decreases-options l = length l.rest
