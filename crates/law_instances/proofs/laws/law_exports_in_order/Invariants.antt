use Rattle.std.proofs.Common.{◌≡◌, ◌++◌, length, map}
use Rattle.wasm_instance.specs.Left.{left, entry}
use Rattle.law_instances.proofs.laws.law_exports_in_order.Given as goal

-- what came, and what is left behind it
abbrev pub invariant-exports : goal.invariant-exports
invariant-exports l = map entry l.all.items ++ left l.exports ≡ left l.fn.exports

abbrev pub decreases-exports : goal.decreases-exports
decreases-exports l = length (left l.exports)
