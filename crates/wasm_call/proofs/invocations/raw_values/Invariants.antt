use Rattle.std.proofs.Common.{◌≡◌, ◌++◌, map, drop}
use Rattle.spec_machine.specs.Values.{raw_val}
use Rattle.wasm_call.proofs.invocations.raw_values.Given as goal

abbrev pub invariant-loop-val : goal.invariant-loop-val
invariant-loop-val l = map raw_val l.vals ≡ l.raws.items ++ map raw_val (drop l.val-index l.vals)
