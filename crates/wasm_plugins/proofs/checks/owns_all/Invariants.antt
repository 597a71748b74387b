use Rattle.std.proofs.Common.{◌≡◌, drop}
use Rattle.std.specs.List.{list_all}
use Rattle.spec_machine.specs.Values.{owns_extern}
use Rattle.wasm_plugins.proofs.checks.owns_all.Given as goal

-- what is left decides
abbrev pub invariant-loop-object : goal.invariant-loop-object
invariant-loop-object g l =
    list_all (owns_extern l.store.machine) (drop l.object-index l.objects)
    ≡ list_all (owns_extern l.store.machine) l.objects
