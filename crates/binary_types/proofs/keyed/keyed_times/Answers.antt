use Rattle.std.proofs.Common.{rules, arith}
use Rattle.binary_index.proofs.SaidLemmas.{said_more}
use Rattle.binary_types.proofs.Repeats.{times_kept, times_stopped}
use Rattle.binary_types.specs.Types.{value_type}
use Rattle.binary_types.proofs.keyed.keyed_times.Goals as goal

pub loop-preserved : goal.loop-preserved
loop-preserved c = record {
  read = times_kept c.args.count c.loop.counter (value_type c.args.index.now) c.loop.items.items c.loop.input
      c.in-Ok.item c.keyed_value.new.input _ c.push.new.self.items (omega arith) c.loop.invariant.read c.in-Ok.ensures.read (search rules);
  said = said_more c.args.index.now c.loop.items.items c.push.new.self.items c.in-Ok.item c.args.key.now c.loop.key c.keyed_value.new.key
      c.loop.invariant.said c.in-Ok.ensures.key (search rules);
}

pub returns-in-Err : goal.returns-in-Err
returns-in-Err c = record {
  read = times_stopped c.args.count c.loop.counter (value_type c.args.index.now) c.loop.items.items c.loop.input
      c.in-Err.fault c.keyed_value.new.input _ (omega arith) c.loop.invariant.read c.in-Err.ensures.read;
  key = tt;
}
