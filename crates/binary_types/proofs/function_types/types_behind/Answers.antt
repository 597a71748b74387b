use Rattle.std.proofs.Common.{arith}
use Rattle.binary_types.proofs.Repeats.{types_stopped}
use Rattle.binary_types.proofs.function_types.types_behind.Goals as goal

pub returns-in-Err : goal.returns-in-Err
returns-in-Err c =
    types_stopped c.args.engine.0 c.args.count c.loop.counter c.loop.types c.loop.input
    c.in-Err.fault c.function_type.new.input _ (omega arith) c.loop.invariant c.in-Err.ensures.read
