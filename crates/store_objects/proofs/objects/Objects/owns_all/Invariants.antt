use Rattle.std.proofs.Common.{◌≡◌, drop}
use Rattle.std.specs.List.{list_all}
use Rattle.spec_machine.specs.Values.{owns_extern}
use Rattle.store_objects.proofs.objects.Objects.owns_all.Given as goal

-- what is left decides
abbrev pub invariant-loop-object : goal.invariant-loop-object
invariant-loop-object l =
    list_all (owns_extern l.self) (drop l.object-index l.stored) ≡ list_all (owns_extern l.self) l.stored
