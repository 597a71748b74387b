use Rattle.std.proofs.Common.{length}
use Rattle.linker_map.proofs.ResolvedLemmas.{AreFound}
use Rattle.linker_map.proofs.linker_map.LinkerMap.items.Given as goal

abbrev pub invariant-imports : goal.invariant-imports
invariant-imports l = AreFound l.self l.imports l.rest l.items.items

abbrev pub decreases-imports : goal.decreases-imports
decreases-imports l = length l.rest
