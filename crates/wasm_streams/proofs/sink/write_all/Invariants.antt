use Rattle.std.proofs.Common.{◌≡◌, ◌≤◌, ◌-◌, ◌&&◌, ◌==◌, length, take}
use Rattle.wasm_streams.specs.Streams.{after}
use Rattle.wasm_streams.proofs.sink.write_all.Given as goal

abbrev pub invariant-loop-done : goal.invariant-loop-done
invariant-loop-done g l = record {
  within : l.done ≤ length l.text;
  wrote : g.K.Sink.held l.sink ≡ after (take l.done l.text) (g.K.Sink.held l.fn.sink);
  flushed : g.K.Sink.flushed l.sink ≡ (g.K.Sink.flushed l.fn.sink && (l.done == 0));
  uncounted : g.K.Sink.faults l.sink ≡ g.K.Sink.faults l.fn.sink;
}

abbrev pub decreases-loop-done : goal.decreases-loop-done
decreases-loop-done g l = length l.text - l.done
