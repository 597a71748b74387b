use Rattle.std.proofs.Common.{◌≡◌, ◌++◌, length}
use Rattle.std.specs.List.{filter_map}
use Rattle.std.specs.Prelude.{ℕ, slice_get, option_map}
use Rattle.wasm_objects.specs.Globals.{Global}
use Rattle.instance_parts.proofs.objects.values_at.Given as goal

abbrev pub invariant-numbers : goal.invariant-numbers
invariant-numbers l =
    l.values.items ++ filter_map (λ (n : ℕ). option_map (λ (g : Global). g.value) (slice_get l.held.globals n)) l.rest
    ≡ filter_map (λ (n : ℕ). option_map (λ (g : Global). g.value) (slice_get l.held.globals n)) l.numbers

abbrev pub decreases-numbers : goal.decreases-numbers
decreases-numbers l = length l.rest
