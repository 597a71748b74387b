use Rattle.std.proofs.Common.{◌≡◌, ◌-◌, []}
use Rattle.binary_types.specs.FunctionTypes.{types_behind}
use Rattle.binary_types.proofs.function_types.types_behind.Given as goal

abbrev pub invariant-loop : goal.invariant-loop
invariant-loop l = types_behind l.fn.engine.0 l.fn.count [] l.fn.input ≡ types_behind l.engine.0 (l.count - l.counter) l.types l.input
