use Rattle.std.proofs.Common.{◌≡◌, ◌++◌, length}
use Rattle.std.specs.Prelude.{option_map}
use Rattle.c_calls.specs.Values as forms
use Rattle.c_calls.proofs.values.values_in.Given as goal

abbrev pub invariant-given : goal.invariant-given
invariant-given l =
    forms.values_in l.fn.given ≡ option_map (λ more. l.values.items ++ more) (forms.values_in l.rest)

abbrev pub decreases-given : goal.decreases-given
decreases-given l = length l.rest
