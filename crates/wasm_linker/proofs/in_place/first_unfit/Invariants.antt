use Rattle.std.proofs.Common.{◌≡◌, ◌+◌, length}
use Rattle.wasm_linker.specs.InPlace.{first_unfit}
use Rattle.wasm_linker.proofs.in_place.first_unfit.Given as goal

-- what is left decides
abbrev pub invariant-imports : goal.invariant-imports
invariant-imports l = record {
  same : first_unfit l.objects l.map l.place l.rest ≡ first_unfit l.objects l.map 0 l.imports;
  so_far : l.place + length l.rest ≡ length l.imports;
}

abbrev pub decreases-imports : goal.decreases-imports
decreases-imports l = length l.rest
