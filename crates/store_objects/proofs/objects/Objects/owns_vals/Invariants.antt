use Rattle.std.proofs.Common.{◌≡◌, drop}
use Rattle.std.specs.List.{list_all}
use Rattle.spec_machine.specs.Values.{owns_val}
use Rattle.store_objects.proofs.objects.Objects.owns_vals.Given as goal

-- what is left decides
abbrev pub invariant-loop-val : goal.invariant-loop-val
invariant-loop-val l =
    list_all (owns_val l.self) (drop l.val-index l.vals) ≡ list_all (owns_val l.self) l.vals
