use Rattle.std.proofs.Common.{◌≡◌, length}
use Rattle.binary_call.specs.Arguments as forms
use Rattle.binary_call.proofs.arguments.all_fit.Given as goal

abbrev pub invariant-params : goal.invariant-params
invariant-params l = forms.all_fit l.fn.types l.fn.values ≡ forms.all_fit l.params l.rest

abbrev pub decreases-params : goal.decreases-params
decreases-params l = length l.params
