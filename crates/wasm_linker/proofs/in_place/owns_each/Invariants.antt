use Rattle.std.proofs.Common.{◌≡◌, length}
use Rattle.std.specs.List.{list_all}
use Rattle.wasm_linker.specs.InPlace.{owns_for}
use Rattle.wasm_linker.proofs.in_place.owns_each.Given as goal

-- what is left decides
abbrev pub invariant-imports : goal.invariant-imports
invariant-imports l = list_all (owns_for l.objects l.map) l.rest ≡ list_all (owns_for l.objects l.map) l.imports

abbrev pub decreases-imports : goal.decreases-imports
decreases-imports l = length l.rest
