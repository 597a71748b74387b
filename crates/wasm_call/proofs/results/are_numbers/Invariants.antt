use Rattle.std.proofs.Common.{◌≡◌, length, true}
use Rattle.std.specs.List.{list_all}
use Rattle.spec_machine.specs.Machine.{Machine}
use Rattle.spec_machine.specs.Values.{owns_val, all_fit}
use Rattle.wasm_call.proofs.results.are_numbers.Given as goal

-- the values fit where the rest does
abbrev pub invariant-loop-ty : goal.invariant-loop-ty
invariant-loop-ty l =
    (m : Machine) → list_all (owns_val m) l.rest ≡ true → all_fit m l.rest l.wanted ≡ true →
    (list_all (owns_val m) l.vals ≡ true) × (all_fit m l.vals l.types ≡ true)

abbrev pub decreases-loop-ty : goal.decreases-loop-ty
decreases-loop-ty l = length l.wanted
