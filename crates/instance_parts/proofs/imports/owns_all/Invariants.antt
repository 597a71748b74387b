use Rattle.std.proofs.Common.{◌≡◌, drop}
use Rattle.std.specs.List.{list_all}
use Rattle.spec_machine.specs.Values.{owns_extern}
use Rattle.instance_parts.proofs.imports.owns_all.Given as goal

-- what is left decides
abbrev pub invariant-loop-import : goal.invariant-loop-import
invariant-loop-import l =
    list_all (owns_extern l.objects) (drop l.import-index l.imports) ≡ list_all (owns_extern l.objects) l.imports
