use Rattle.std.proofs.Common.{◌≡◌, length, map, string_bytes}
use Rattle.script_lines.specs.Lines.{noted_from, noted_lines_of}
use Rattle.wasm_run.proofs.BufferLemmas.{IsOnTheWay}
use Rattle.wasm_run.proofs.lines.write_replies.Given as goal

abbrev pub invariant-lines : goal.invariant-lines
invariant-lines g l = record {
  way : IsOnTheWay
      (noted_lines_of (noted_from 0 l.noted.notes_after.now (map string_bytes l.noted.notes.now) l.noted.replies.now))
      (noted_lines_of (noted_from l.before l.counts (map string_bytes l.noted.notes.now) l.rest))
      (string_bytes l.waiting) (g.K.Sink.held l.fn.sink) (g.K.Sink.held l.sink);
  uncounted : g.K.Sink.faults l.sink ≡ g.K.Sink.faults l.fn.sink;
}

abbrev pub decreases-lines : goal.decreases-lines
decreases-lines g l = length l.rest
