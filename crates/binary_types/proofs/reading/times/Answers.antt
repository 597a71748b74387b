use Rattle.std.proofs.Common.{rules, arith}
use Rattle.binary_types.proofs.Repeats.{times_kept, times_stopped}
use Rattle.binary_types.proofs.reading.times.Goals as goal

pub returns-in-Err : goal.returns-in-Err
returns-in-Err g c =
    times_stopped c.args.count c.loop.counter (g.R.BinaryReader.meaning c.args.reader.now) c.loop.items.items c.loop.input
    c.in-Err.fault c.read.new.input _ (omega arith) c.loop.invariant c.in-Err.ensures

pub loop-preserved : goal.loop-preserved
loop-preserved g c =
    times_kept c.args.count c.loop.counter (g.R.BinaryReader.meaning c.args.reader.now) c.loop.items.items c.loop.input
    c.in-Ok.item c.read.new.input _ c.push.new.self.items (omega arith) c.loop.invariant c.in-Ok.ensures (search rules)
