use Rattle.std.proofs.Common.{◌≡◌, ◌+◌, length, take}
use Rattle.std.specs.Prelude.{vec_capacity}
use Rattle.wasm_call.specs.Outside.{surrounded}
use Rattle.wasm_session.specs.Sessions.{Runs}
use Rattle.wasm_run.specs.NotedRuns.{AreCounts}
use Rattle.wasm_run.specs.Relations.{script_relations}
use Rattle.wasm_run.proofs.noting.run_noted.Given as goal

abbrev pub invariant-loop-command : goal.invariant-loop-command
invariant-loop-command g l = record {
  ran : Runs (script_relations g.E.EpochSource.readings) l.modules (take l.command-index l.commands)
      (surrounded l.fn.store l.fn.host l.fn.epochs) l.fn.replies (surrounded l.store l.host l.epochs) l.replies;
  counts_are : AreCounts g.E.EpochSource.readings l.modules l.commands
      (surrounded l.fn.store l.fn.host l.fn.epochs) l.fn.replies ran.heard (surrounded l.store l.host l.epochs)
      l.notes_after.items;
  counted : length l.notes_after.items ≡ l.command-index;
  room : vec_capacity l.notes_after ≡ vec_capacity l.fn.notes_after;
  answered : length l.replies ≡ length l.fn.replies + l.command-index;
  engine : l.store.machine.engine ≡ l.fn.store.machine.engine;
}
