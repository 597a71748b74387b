use Rattle.std.proofs.Common.{◌≡◌, length}
use Rattle.spec_machine.specs.Values.{all_fit}
use Rattle.store_objects.proofs.objects.Objects.vals_fit.Given as goal

abbrev pub invariant-loop-rest : goal.invariant-loop-rest
invariant-loop-rest l = all_fit l.self l.rest l.wanted ≡ all_fit l.self l.vals l.types

abbrev pub decreases-loop-rest : goal.decreases-loop-rest
decreases-loop-rest l = length l.rest
