use Rattle.std.proofs.Common.{◌≡◌, ◌-◌, ◌++◌, Ok}
use Rattle.binary_types.specs.Reading.{times, then}
use Rattle.binary_types.proofs.reading.times.Given as goal

abbrev pub invariant-loop : goal.invariant-loop
invariant-loop g l = times l.fn.count (g.R.BinaryReader.meaning l.reader) l.fn.input ≡ then (times (l.count - l.counter) (g.R.BinaryReader.meaning l.reader) l.input) (λ xs p. Ok (l.items.items ++ xs, p))
