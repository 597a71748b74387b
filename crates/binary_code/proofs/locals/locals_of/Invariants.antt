use Rattle.std.proofs.Common.{◌≡◌, ◌-◌, ◌≤◌, length}
use Rattle.binary_code.specs.Bodies.{locals_behind}
use Rattle.binary_code.proofs.Repeats.{locals_due}
use Rattle.binary_code.proofs.locals.locals_of.Given as goal

abbrev pub invariant-loop : goal.invariant-loop
invariant-loop l = record {
  due : locals_behind l.fn.types l.fn.groups 0 l.fn.input ≡ locals_due l.types (l.groups - l.counter) l.locals l.input;
  room : length l.locals ≤ l.room;
  few : length l.locals ≤ 1000000;
}
