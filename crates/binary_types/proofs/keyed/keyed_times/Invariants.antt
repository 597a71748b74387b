use Rattle.std.proofs.Common.{◌≡◌, ◌-◌, ◌++◌, Ok}
use Rattle.binary_index.specs.Keys.{Says}
use Rattle.binary_types.specs.Reading.{times, then}
use Rattle.binary_types.specs.Types.{value_type}
use Rattle.wasm_types.specs.FunctionParts.{types_of}
use Rattle.binary_types.proofs.keyed.keyed_times.Given as goal

abbrev pub invariant-loop : goal.invariant-loop
invariant-loop l = record {
  read : times l.fn.count (value_type l.index) l.fn.input ≡ then (times (l.count - l.counter) (value_type l.index) l.input) (λ xs p. Ok (l.items.items ++ xs, p));
  said : Says l.index (types_of l.items.items) l.fn.key l.key;
}
