use Rattle.std.proofs.Common.{◌≡◌, ◌≤◌, ◌+◌, ◌-◌, length}
use Rattle.wasm_streams.specs.Streams.{before}
use Rattle.wasm_streams.specs.declared.input.TheConstants.{LIMIT}
use Rattle.wasm_streams.proofs.input.read_input.Given as goal

abbrev pub invariant-loop-count : goal.invariant-loop-count
invariant-loop-count g l = record {
  taken : g.S.Source.left l.fn.source ≡ before l.bytes.items (g.S.Source.left l.source);
  ended : g.S.Source.ended l.source ≡ g.S.Source.ended l.fn.source;
  uncounted : g.S.Source.faults l.source ≡ g.S.Source.faults l.fn.source;
  limit : length l.bytes.items ≤ LIMIT;
}

abbrev pub decreases-loop-count : goal.decreases-loop-count
decreases-loop-count g l = LIMIT + 1 - length l.bytes.items
