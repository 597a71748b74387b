use Rattle.std.proofs.Common.{◌≡◌, ◌≤◌, ◌++◌, length, map}
use Rattle.wasm_instance.specs.Left.{left, entry}
use Rattle.law_instances.proofs.laws.taken_from_front.Given as goal

-- what came, and what is left behind it
abbrev pub invariant-exports : goal.invariant-exports
invariant-exports l = record {
  whole : map entry l.front.items ++ left l.exports ≡ left l.fn.exports;
  within : length l.front.items ≤ l.count;
}

abbrev pub decreases-exports : goal.decreases-exports
decreases-exports l = length (left l.exports)
