use Rattle.std.proofs.Common.{◌≡◌, ◌++◌, length, map, string_bytes}
use Rattle.std.specs.Prelude.{option_map}
use Rattle.binary_run.specs.Calls as calls
use Rattle.binary_run.proofs.arguments.arguments.Given as goal

abbrev pub invariant-params : goal.invariant-params
invariant-params l =
    calls.arguments l.fn.types (map string_bytes l.fn.words)
    ≡ option_map (λ more. l.operands.items ++ more) (calls.arguments l.params (map string_bytes l.rest))

abbrev pub decreases-params : goal.decreases-params
decreases-params l = length l.params
