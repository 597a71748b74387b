use Rattle.std.proofs.Common.{◌≡◌, ◌++◌, length}
use Rattle.std.specs.List.{filter_map}
use Rattle.instance_parts.specs.Spaces.{number_as}
use Rattle.instance_parts.proofs.spaces.imported_numbers.Given as goal

abbrev pub invariant-imports : goal.invariant-imports
invariant-imports l =
    l.numbers.items ++ filter_map (number_as l.space) l.rest ≡ filter_map (number_as l.space) l.imports

abbrev pub decreases-imports : goal.decreases-imports
decreases-imports l = length l.rest
