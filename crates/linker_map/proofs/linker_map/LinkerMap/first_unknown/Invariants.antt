use Rattle.std.proofs.Common.{◌≡◌, ◌+◌, length}
use Rattle.std.specs.List.{position_from}
use Rattle.linker_map.specs.Imports.{is_unknown}
use Rattle.linker_map.proofs.linker_map.LinkerMap.first_unknown.Given as goal

-- what is left decides
abbrev pub invariant-imports : goal.invariant-imports
invariant-imports l = record {
  same : position_from (is_unknown l.self) l.place l.rest ≡ position_from (is_unknown l.self) 0 l.imports;
  so_far : l.place + length l.rest ≡ length l.imports;
}

abbrev pub decreases-imports : goal.decreases-imports
decreases-imports l = length l.rest
