use Rattle.std.proofs.Common.{◌≡◌, ◌++◌, length, map, reverse}
use Rattle.wasm_instance.specs.Left.{left, entry}
use Rattle.law_instances.proofs.laws.law_exports_in_reverse.Given as goal

-- what came, and what is left behind it in reverse
abbrev pub invariant-exports : goal.invariant-exports
invariant-exports l = map entry l.all.items ++ reverse (left l.exports) ≡ reverse (left l.fn.exports)

abbrev pub decreases-exports : goal.decreases-exports
decreases-exports l = length (left l.exports)
