-- A replay of a script by the tape of its record.
use Rattle.std.proofs.Common.{◌≡◌, List, sym, ◌∙◌}
use Rattle.spec_machine.specs.declared.reply.Reply.{Reply}
use Rattle.law_replay.specs.Tapes.{TapeParts}
use Rattle.wasm_call.specs.Outside.{Readings}
use Rattle.script_commands.specs.declared.script.Script.{Script}
use Rattle.wasm_replay.specs.ReplayLaws.{AreEqual, IsRecordedRun}
use Rattle.wasm_replay.specs.declared.ends.ReplayEnd.{ReplayEnd}
use Rattle.wasm_replay.proofs.ReplayLemmas.{law_of_replays}
use Rattle.wasm_run.specs.Starts.{start_host}
use Rattle.replay_run.specs.Laws.{LawOfRecords}
use Rattle.replay_run.specs.Runs.{HasRecorded, HasReplayed, bodies_of, script_moves}
use Rattle.replay_run.specs.SessionSteps.{session_host}
use Rattle.replay_run.specs.Starts.{room}

module _ {E : Type 0} (readings : Readings E) where
  is_recorded :
      (epochs epochs_after : E) (script : Script) (tape : TapeParts) (replies again : List Reply) (ended : ReplayEnd)
      (r : HasRecorded readings epochs epochs_after script tape replies) (p : HasReplayed script tape again ended)
      → IsRecordedRun r.new replies p.new again ended
  is_recorded epochs epochs_after script tape replies again ended r p =
      let equal : AreEqual p.old r.old = record {
        machine = p.begins.starts.machine ∙ sym r.begins.starts.machine;
        turns = p.begins.starts.turns ∙ sym r.begins.starts.turns;
      } in
      law_of_replays (script_moves readings) (bodies_of script) room script.modules script.commands tape r.old r.new
      (session_host (start_host script.bodies)) r.host epochs epochs_after p.old p.new _ replies again ended r.records equal
      p.ran

  pub law_of_records : LawOfRecords readings
  law_of_records epochs epochs_after script tape replies again ended r p =
      let same = is_recorded epochs epochs_after script tape replies again ended r p in (same.ended_same, same.replies)
