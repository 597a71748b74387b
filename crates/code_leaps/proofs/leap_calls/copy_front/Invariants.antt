use Rattle.std.proofs.Common.{◌≡◌, ◌≤◌, ◌-◌, length, take}
use Rattle.code_leaps.proofs.leap_calls.copy_front.Given as goal

abbrev pub invariant-values : goal.invariant-values
invariant-values l = record {
  within : l.at ≤ length l.from;
  long : length l.to ≡ length l.initial.to;
  front : take l.at l.to ≡ take l.at l.from;
}

abbrev pub decreases-values : goal.decreases-values
decreases-values l = length l.from - l.at
