use Rattle.std.proofs.Common.{◌≡◌, ◌≤◌, ◌+◌, ◌-◌, ◌++◌, length, take}
use Rattle.code_leaps.specs.Calling.{begun_values}
use Rattle.code_leaps.proofs.leap_calls.begin_behind.Given as goal

abbrev pub invariant-types : goal.invariant-types
invariant-types l = record {
  within : l.at ≤ length l.types;
  long : length l.to ≡ length l.initial.to;
  front : take (l.from + l.at) l.to ≡ take l.from l.initial.to ++ begun_values (take l.at l.types);
}

abbrev pub decreases-types : goal.decreases-types
decreases-types l = length l.types - l.at
